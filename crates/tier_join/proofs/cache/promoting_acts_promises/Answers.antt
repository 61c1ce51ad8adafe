use Rattle.tier_join.proofs.CacheSteps.{promoting_acts_promises}
use Rattle.tier_join.proofs.cache.promoting_acts_promises.Goals as goal

pub returns : goal.returns
returns c = promoting_acts_promises
