use Rattle.tier_works.proofs.WaitSteps.{awaiting_keeps}
use Rattle.tier_works.proofs.waits.awaiting_keeps.Goals as goal

pub returns : goal.returns
returns c = awaiting_keeps
