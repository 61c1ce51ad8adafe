use Rattle.pool_keys.proofs.Caches.{record_one}
use Rattle.pool_keys.proofs.laws.record_is_one.Goals as goal

pub returns : goal.returns
returns c = record_one
