use Rattle.tier_works.proofs.ReadSteps.{reads_join_last}
use Rattle.tier_works.proofs.reads.reads_join_last.Goals as goal

pub returns : goal.returns
returns c = reads_join_last
