use Rattle.tier_owners.proofs.Closing.{asking_owned}
use Rattle.tier_owners.proofs.owning.asking_keeps_owners.Goals as goal

pub returns : goal.returns
returns c = asking_owned
