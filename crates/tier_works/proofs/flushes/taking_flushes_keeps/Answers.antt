use Rattle.tier_works.proofs.FlushSteps.{taking_flushes_keeps}
use Rattle.tier_works.proofs.flushes.taking_flushes_keeps.Goals as goal

pub returns : goal.returns
returns c = taking_flushes_keeps
