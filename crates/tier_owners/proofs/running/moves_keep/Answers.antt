use Rattle.tier_owners.proofs.Keeping.{moves_keep}
use Rattle.tier_owners.proofs.running.moves_keep.Goals as goal

pub returns : goal.returns
returns c = moves_keep
