use Rattle.log_store.proofs.Opens.{goes_on}
use Rattle.log_store.proofs.laws.a_log_goes_on.Goals as goal

pub returns : goal.returns
returns c = goes_on
