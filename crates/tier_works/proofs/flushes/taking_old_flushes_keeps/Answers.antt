use Rattle.tier_works.proofs.FlushSteps.{taking_old_flushes_keeps}
use Rattle.tier_works.proofs.flushes.taking_old_flushes_keeps.Goals as goal

pub returns : goal.returns
returns c = taking_old_flushes_keeps
