use Rattle.base_pool.proofs.Words.{chunks_gather}
use Rattle.base_pool.proofs.laws.chunks_gather.Goals as goal

pub returns : goal.returns
returns c = chunks_gather
