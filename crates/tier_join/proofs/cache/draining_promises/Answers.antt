use Rattle.tier_join.proofs.CacheSteps.{draining_promises}
use Rattle.tier_join.proofs.cache.draining_promises.Goals as goal

pub returns : goal.returns
returns c = draining_promises
