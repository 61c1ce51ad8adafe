use Rattle.copy_chunk.proofs.Pieces.{cut_exact}
use Rattle.copy_chunk.proofs.cut.chunk_of.Goals as goal

pub returns : goal.returns
returns c = cut_exact c.cut.result c.args.state.now c.args.at.now c.cut.ensures
