use Rattle.base_pool.proofs.Words.{stops_between}
use Rattle.base_pool.proofs.laws.stops_between.Goals as goal

pub returns : goal.returns
returns c = stops_between
