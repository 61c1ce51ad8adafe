use Rattle.tier_protocol.proofs.MemoryMoves.{gathering}
use Rattle.tier_protocol.proofs.memory_laws.gathering_keeps_memory.Goals as goal

pub returns : goal.returns
returns c = gathering
