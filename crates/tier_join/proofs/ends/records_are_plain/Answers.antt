use Rattle.tier_join.proofs.Telling.{records_are_plain}
use Rattle.tier_join.proofs.ends.records_are_plain.Goals as goal

pub returns : goal.returns
returns c = records_are_plain
