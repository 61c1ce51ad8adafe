use Rattle.tier_works.proofs.WaitSteps.{awaiting_ends_step}
use Rattle.tier_works.proofs.waits.awaiting_ends_step.Goals as goal

pub returns : goal.returns
returns c = awaiting_ends_step
