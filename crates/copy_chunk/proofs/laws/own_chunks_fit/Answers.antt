use Rattle.copy_chunk.proofs.Fits.{own_chunk_fits, wanted_chunk_fits}
use Rattle.copy_chunk.proofs.laws.own_chunks_fit.Goals as goal

pub returns-clause-next : goal.returns-clause-next
returns-clause-next c = own_chunk_fits

pub returns-clause-there : goal.returns-clause-there
returns-clause-there c = wanted_chunk_fits
