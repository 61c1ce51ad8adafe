use Rattle.tier_join.proofs.CacheSteps.{raising_promises}
use Rattle.tier_join.proofs.cache.raising_promises.Goals as goal

pub returns : goal.returns
returns c = raising_promises
