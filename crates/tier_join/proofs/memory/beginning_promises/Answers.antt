use Rattle.tier_join.proofs.MemorySteps.{beginning_promises}
use Rattle.tier_join.proofs.memory.beginning_promises.Goals as goal

pub returns : goal.returns
returns c = beginning_promises
