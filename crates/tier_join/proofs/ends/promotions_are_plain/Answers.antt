use Rattle.tier_join.proofs.Telling.{promotions_are_plain}
use Rattle.tier_join.proofs.ends.promotions_are_plain.Goals as goal

pub returns : goal.returns
returns c = promotions_are_plain
