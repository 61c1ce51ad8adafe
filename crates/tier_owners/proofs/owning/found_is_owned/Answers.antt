use Rattle.tier_owners.proofs.Closing.{found_owned}
use Rattle.tier_owners.proofs.owning.found_is_owned.Goals as goal

pub returns : goal.returns
returns c = found_owned
