use Rattle.tier_protocol.proofs.Memory.{memory_free}
use Rattle.tier_protocol.proofs.memory_laws.ending_keeps_memory.Goals as goal

pub returns : goal.returns
returns c = memory_free
