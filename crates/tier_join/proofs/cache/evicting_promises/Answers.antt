use Rattle.tier_join.proofs.CacheSteps.{evicting_promises}
use Rattle.tier_join.proofs.cache.evicting_promises.Goals as goal

pub returns : goal.returns
returns c = evicting_promises
