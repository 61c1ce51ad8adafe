use Rattle.base_pool.proofs.Words.{old_is_refused}
use Rattle.base_pool.proofs.laws.old_is_refused.Goals as goal

pub returns : goal.returns
returns c = old_is_refused
