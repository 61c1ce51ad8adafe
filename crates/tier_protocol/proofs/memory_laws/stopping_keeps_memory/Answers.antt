use Rattle.tier_protocol.proofs.MemoryMoves.{stops}
use Rattle.tier_protocol.proofs.memory_laws.stopping_keeps_memory.Goals as goal

pub returns : goal.returns
returns c = stops
