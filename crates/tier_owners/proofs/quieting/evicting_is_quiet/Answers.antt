use Rattle.tier_owners.proofs.Quiets.{evicting_quiet}
use Rattle.tier_owners.proofs.quieting.evicting_is_quiet.Goals as goal

pub returns : goal.returns
returns c = evicting_quiet
