use Rattle.tier_join.proofs.MemorySteps.{sending_promises}
use Rattle.tier_join.proofs.memory.sending_promises.Goals as goal

pub returns : goal.returns
returns c = sending_promises
