use Rattle.tier_owners.proofs.Quiets.{filling_quiet}
use Rattle.tier_owners.proofs.quieting.filling_is_quiet.Goals as goal

pub returns : goal.returns
returns c = filling_quiet
