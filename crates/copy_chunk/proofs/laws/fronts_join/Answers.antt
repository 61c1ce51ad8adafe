use Rattle.copy_chunk.proofs.Fronts.{joined_front}
use Rattle.copy_chunk.proofs.laws.fronts_join.Goals as goal

pub returns : goal.returns
returns c = joined_front
