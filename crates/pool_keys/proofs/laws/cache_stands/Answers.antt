use Rattle.pool_keys.proofs.Caches.{stands}
use Rattle.pool_keys.proofs.laws.cache_stands.Goals as goal

pub returns : goal.returns
returns c = stands
