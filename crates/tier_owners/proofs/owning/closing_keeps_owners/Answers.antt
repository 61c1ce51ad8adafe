use Rattle.tier_owners.proofs.Closing.{closing_owned}
use Rattle.tier_owners.proofs.owning.closing_keeps_owners.Goals as goal

pub returns : goal.returns
returns c = closing_owned
