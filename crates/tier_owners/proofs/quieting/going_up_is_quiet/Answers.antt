use Rattle.tier_owners.proofs.Quiets.{quiet_up}
use Rattle.tier_owners.proofs.quieting.going_up_is_quiet.Goals as goal

pub returns : goal.returns
returns c = quiet_up
