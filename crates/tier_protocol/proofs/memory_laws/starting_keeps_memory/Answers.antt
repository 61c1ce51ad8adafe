use Rattle.tier_protocol.proofs.MemoryMoves.{starts}
use Rattle.tier_protocol.proofs.memory_laws.starting_keeps_memory.Goals as goal

pub returns : goal.returns
returns c = starts
