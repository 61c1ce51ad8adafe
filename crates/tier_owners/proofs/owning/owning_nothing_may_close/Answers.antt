use Rattle.tier_owners.proofs.Closing.{owning_nothing_closes}
use Rattle.tier_owners.proofs.owning.owning_nothing_may_close.Goals as goal

pub returns : goal.returns
returns c = owning_nothing_closes
