use Rattle.tier_protocol.proofs.Memory.{memory_left}
use Rattle.tier_protocol.proofs.memory_laws.losing_keeps_memory.Goals as goal

pub returns : goal.returns
returns c = memory_left
