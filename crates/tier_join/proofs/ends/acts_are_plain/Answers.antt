use Rattle.tier_join.proofs.Telling.{acts_are_plain}
use Rattle.tier_join.proofs.ends.acts_are_plain.Goals as goal

pub returns : goal.returns
returns c = acts_are_plain
