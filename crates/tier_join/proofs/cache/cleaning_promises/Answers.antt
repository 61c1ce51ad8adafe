use Rattle.tier_join.proofs.CacheSteps.{cleaning_promises}
use Rattle.tier_join.proofs.cache.cleaning_promises.Goals as goal

pub returns : goal.returns
returns c = cleaning_promises
