use Rattle.pool_keys.proofs.Leaving.{made_leaves}
use Rattle.pool_keys.proofs.left.done_leaves.Goals as goal

pub returns : goal.returns
returns c = made_leaves
