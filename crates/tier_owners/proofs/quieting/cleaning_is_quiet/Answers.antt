use Rattle.tier_owners.proofs.Quiets.{cleaning_quiet}
use Rattle.tier_owners.proofs.quieting.cleaning_is_quiet.Goals as goal

pub returns : goal.returns
returns c = cleaning_quiet
