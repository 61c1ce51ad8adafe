use Rattle.tier_join.proofs.Telling.{left_stands}
use Rattle.tier_join.proofs.ends.left_stands.Goals as goal

pub returns : goal.returns
returns c = left_stands
