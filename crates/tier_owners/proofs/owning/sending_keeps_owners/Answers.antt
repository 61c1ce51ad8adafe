use Rattle.tier_owners.proofs.Sending.{sending_owned}
use Rattle.tier_owners.proofs.owning.sending_keeps_owners.Goals as goal

pub returns : goal.returns
returns c = sending_owned
