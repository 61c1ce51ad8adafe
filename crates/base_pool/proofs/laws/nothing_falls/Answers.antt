use Rattle.base_pool.proofs.Falling.{nothing_falls}
use Rattle.base_pool.proofs.laws.nothing_falls.Goals as goal

pub returns : goal.returns
returns c = nothing_falls
