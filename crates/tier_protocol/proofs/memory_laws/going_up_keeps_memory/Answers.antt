use Rattle.tier_protocol.proofs.Memory.{memory_up}
use Rattle.tier_protocol.proofs.memory_laws.going_up_keeps_memory.Goals as goal

pub returns : goal.returns
returns c = memory_up
