use Rattle.tier_view.proofs.LocalFrees.{free_lets_write}
use Rattle.tier_view.proofs.locals.free_lets_write.Goals as goal

pub returns : goal.returns
returns c = free_lets_write
