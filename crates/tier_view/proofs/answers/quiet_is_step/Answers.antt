use Rattle.tier_view.proofs.Answering.{quiet_is_step}
use Rattle.tier_view.proofs.answers.quiet_is_step.Goals as goal

pub returns : goal.returns
returns c = quiet_is_step
