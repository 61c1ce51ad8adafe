use Rattle.base_pool.proofs.Keeping.{kept_is_answered}
use Rattle.base_pool.proofs.laws.kept_is_answered.Goals as goal

pub returns : goal.returns
returns c = kept_is_answered
