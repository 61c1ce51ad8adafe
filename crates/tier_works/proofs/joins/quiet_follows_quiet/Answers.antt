use Rattle.tier_works.proofs.JoinSteps.{quiet_follows_quiet}
use Rattle.tier_works.proofs.joins.quiet_follows_quiet.Goals as goal

pub returns : goal.returns
returns c = quiet_follows_quiet
