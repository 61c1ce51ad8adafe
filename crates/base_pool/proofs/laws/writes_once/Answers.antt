use Rattle.base_pool.proofs.Words.{writes_once}
use Rattle.base_pool.proofs.laws.writes_once.Goals as goal

pub returns : goal.returns
returns c = writes_once
