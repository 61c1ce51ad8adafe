use Rattle.tier_join.proofs.MemorySteps.{going_up_promises}
use Rattle.tier_join.proofs.memory.going_up_promises.Goals as goal

pub returns : goal.returns
returns c = going_up_promises
