use Rattle.tier_join.proofs.Telling.{bares_are_plain}
use Rattle.tier_join.proofs.ends.bares_are_plain.Goals as goal

pub returns : goal.returns
returns c = bares_are_plain
