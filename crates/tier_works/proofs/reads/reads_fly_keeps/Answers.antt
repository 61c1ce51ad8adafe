use Rattle.tier_works.proofs.ReadSteps.{reads_fly_keeps}
use Rattle.tier_works.proofs.reads.reads_fly_keeps.Goals as goal

pub returns : goal.returns
returns c = reads_fly_keeps
