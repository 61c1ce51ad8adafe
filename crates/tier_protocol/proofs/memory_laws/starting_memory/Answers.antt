use Rattle.tier_protocol.proofs.MemoryMoves.{starting}
use Rattle.tier_protocol.proofs.memory_laws.starting_memory.Goals as goal

pub returns : goal.returns
returns c = starting
