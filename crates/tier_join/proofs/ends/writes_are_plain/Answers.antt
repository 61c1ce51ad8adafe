use Rattle.tier_join.proofs.Telling.{writes_are_plain}
use Rattle.tier_join.proofs.ends.writes_are_plain.Goals as goal

pub returns : goal.returns
returns c = writes_are_plain
