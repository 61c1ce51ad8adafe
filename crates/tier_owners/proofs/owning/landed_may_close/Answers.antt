use Rattle.tier_owners.proofs.Closing.{landed_closes}
use Rattle.tier_owners.proofs.owning.landed_may_close.Goals as goal

pub returns : goal.returns
returns c = landed_closes
