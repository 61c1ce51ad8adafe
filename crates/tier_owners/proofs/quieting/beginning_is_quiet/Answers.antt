use Rattle.tier_owners.proofs.Quiets.{quiet_begun}
use Rattle.tier_owners.proofs.quieting.beginning_is_quiet.Goals as goal

pub returns : goal.returns
returns c = quiet_begun
