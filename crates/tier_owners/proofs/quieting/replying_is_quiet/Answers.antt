use Rattle.tier_owners.proofs.Quiets.{quiet_replied}
use Rattle.tier_owners.proofs.quieting.replying_is_quiet.Goals as goal

pub returns : goal.returns
returns c = quiet_replied
