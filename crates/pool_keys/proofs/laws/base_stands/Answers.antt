use Rattle.pool_keys.proofs.Bases.{stands}
use Rattle.pool_keys.proofs.laws.base_stands.Goals as goal

pub returns : goal.returns
returns c = stands
