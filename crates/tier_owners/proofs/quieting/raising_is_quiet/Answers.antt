use Rattle.tier_owners.proofs.Quiets.{raising_quiet}
use Rattle.tier_owners.proofs.quieting.raising_is_quiet.Goals as goal

pub returns : goal.returns
returns c = raising_quiet
