use Rattle.tier_works.proofs.WaitSteps.{noting_keeps}
use Rattle.tier_works.proofs.waits.noting_keeps.Goals as goal

pub returns : goal.returns
returns c = noting_keeps
