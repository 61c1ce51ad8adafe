use Rattle.tier_join.proofs.MemorySteps.{gathering_promises}
use Rattle.tier_join.proofs.memory.gathering_promises.Goals as goal

pub returns : goal.returns
returns c = gathering_promises
