use Rattle.tier_owners.proofs.Quiets.{landing_quiet}
use Rattle.tier_owners.proofs.quieting.landing_is_quiet.Goals as goal

pub returns : goal.returns
returns c = landing_quiet
