use Rattle.tier_works.proofs.FlushSteps.{flushes_fly_alone_keeps}
use Rattle.tier_works.proofs.flushes.flushes_fly_alone_keeps.Goals as goal

pub returns : goal.returns
returns c = flushes_fly_alone_keeps
