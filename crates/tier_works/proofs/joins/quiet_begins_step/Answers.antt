use Rattle.tier_works.proofs.JoinSteps.{quiet_begins_step}
use Rattle.tier_works.proofs.joins.quiet_begins_step.Goals as goal

pub returns : goal.returns
returns c = quiet_begins_step
