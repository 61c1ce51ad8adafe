use Rattle.tier_join.proofs.MemorySteps.{losing_promises}
use Rattle.tier_join.proofs.memory.losing_promises.Goals as goal

pub returns : goal.returns
returns c = losing_promises
