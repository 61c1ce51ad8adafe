use Rattle.tier_protocol.proofs.MemoryMoves.{answering}
use Rattle.tier_protocol.proofs.memory_laws.answering_keeps_memory.Goals as goal

pub returns : goal.returns
returns c = answering
