use Rattle.tier_works.proofs.JoinSteps.{quiet_ends_step}
use Rattle.tier_works.proofs.joins.quiet_ends_step.Goals as goal

pub returns : goal.returns
returns c = quiet_ends_step
