use Rattle.copy_chunk.proofs.Fronts.{whole_front}
use Rattle.copy_chunk.proofs.laws.fronts_go_on.Goals as goal

pub returns-clause-all : goal.returns-clause-all
returns-clause-all c = λ cs s front e. whole_front s cs front e
