use Rattle.tier_owners.proofs.Closing.{readers_close}
use Rattle.tier_owners.proofs.owning.readers_may_close.Goals as goal

pub returns : goal.returns
returns c = readers_close
