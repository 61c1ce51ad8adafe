use Rattle.tier_join.proofs.MemorySteps.{landing_promises}
use Rattle.tier_join.proofs.memory.landing_promises.Goals as goal

pub returns : goal.returns
returns c = landing_promises
