use Rattle.tier_protocol.proofs.MemoryMoves.{tells}
use Rattle.tier_protocol.proofs.memory_laws.telling_keeps_memory.Goals as goal

pub returns : goal.returns
returns c = tells
