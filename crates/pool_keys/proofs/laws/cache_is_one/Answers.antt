use Rattle.pool_keys.proofs.Caches.{one}
use Rattle.pool_keys.proofs.laws.cache_is_one.Goals as goal

pub returns : goal.returns
returns c = one
