use Rattle.tier_protocol.proofs.MemoryMoves.{raises}
use Rattle.tier_protocol.proofs.memory_laws.raising_keeps_memory.Goals as goal

pub returns : goal.returns
returns c = raises
