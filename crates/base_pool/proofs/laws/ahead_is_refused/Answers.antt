use Rattle.base_pool.proofs.Words.{ahead_is_refused}
use Rattle.base_pool.proofs.laws.ahead_is_refused.Goals as goal

pub returns : goal.returns
returns c = ahead_is_refused
