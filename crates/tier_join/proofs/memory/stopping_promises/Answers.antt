use Rattle.tier_join.proofs.MemorySteps.{stopping_promises}
use Rattle.tier_join.proofs.memory.stopping_promises.Goals as goal

pub returns : goal.returns
returns c = stopping_promises
