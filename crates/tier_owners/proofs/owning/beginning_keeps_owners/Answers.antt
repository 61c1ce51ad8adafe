use Rattle.tier_owners.proofs.Sending.{beginning_owned}
use Rattle.tier_owners.proofs.owning.beginning_keeps_owners.Goals as goal

pub returns : goal.returns
returns c = beginning_owned
