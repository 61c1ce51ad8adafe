use Rattle.pool_keys.proofs.Bases.{one}
use Rattle.pool_keys.proofs.laws.base_is_one.Goals as goal

pub returns : goal.returns
returns c = one
