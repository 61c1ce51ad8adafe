use Rattle.tier_owners.proofs.Closing.{unsent_closes}
use Rattle.tier_owners.proofs.owning.unsent_may_close.Goals as goal

pub returns : goal.returns
returns c = unsent_closes
