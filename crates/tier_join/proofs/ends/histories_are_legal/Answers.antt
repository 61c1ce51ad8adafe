use Rattle.tier_join.proofs.Telling.{histories_are_legal}
use Rattle.tier_join.proofs.ends.histories_are_legal.Goals as goal

pub returns : goal.returns
returns c = histories_are_legal
