use Rattle.tier_join.proofs.Lasting.{left_are_at_least}
use Rattle.tier_join.proofs.rising.left_are_at_least.Goals as goal

pub returns : goal.returns
returns c = left_are_at_least
