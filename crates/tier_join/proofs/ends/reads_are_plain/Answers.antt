use Rattle.tier_join.proofs.Telling.{reads_are_plain}
use Rattle.tier_join.proofs.ends.reads_are_plain.Goals as goal

pub returns : goal.returns
returns c = reads_are_plain
