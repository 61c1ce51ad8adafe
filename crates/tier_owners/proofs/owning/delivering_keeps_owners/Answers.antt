use Rattle.tier_owners.proofs.Delivering.{delivering_owned}
use Rattle.tier_owners.proofs.owning.delivering_keeps_owners.Goals as goal

pub returns : goal.returns
returns c = delivering_owned
