use Rattle.tier_protocol.proofs.MemoryMoves.{replying}
use Rattle.tier_protocol.proofs.memory_laws.replying_keeps_memory.Goals as goal

pub returns : goal.returns
returns c = replying
