use Rattle.tier_owners.proofs.Quiets.{gathering_quiet}
use Rattle.tier_owners.proofs.quieting.gathering_is_quiet.Goals as goal

pub returns : goal.returns
returns c = gathering_quiet
