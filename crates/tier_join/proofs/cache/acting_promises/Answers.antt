use Rattle.tier_join.proofs.CacheSteps.{acting_promises}
use Rattle.tier_join.proofs.cache.acting_promises.Goals as goal

pub returns : goal.returns
returns c = acting_promises
