use Rattle.tier_owners.proofs.Acting.{acting_owned}
use Rattle.tier_owners.proofs.owning.acting_keeps_owners.Goals as goal

pub returns : goal.returns
returns c = acting_owned
