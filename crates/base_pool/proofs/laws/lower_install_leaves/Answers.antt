use Rattle.base_pool.proofs.Words.{lower_install}
use Rattle.base_pool.proofs.laws.lower_install_leaves.Goals as goal

pub returns : goal.returns
returns c = lower_install
