use Rattle.tier_owners.proofs.Quiets.{promoting_quiet}
use Rattle.tier_owners.proofs.quieting.promoting_is_quiet.Goals as goal

pub returns : goal.returns
returns c = promoting_quiet
