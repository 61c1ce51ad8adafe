use Rattle.base_pool.proofs.Words.{readings_leave}
use Rattle.base_pool.proofs.laws.readings_leave.Goals as goal

pub returns : goal.returns
returns c = readings_leave
