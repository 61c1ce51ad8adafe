use Rattle.tier_owners.proofs.Closing.{blocked_closes}
use Rattle.tier_owners.proofs.owning.blocked_may_close.Goals as goal

pub returns : goal.returns
returns c = blocked_closes
