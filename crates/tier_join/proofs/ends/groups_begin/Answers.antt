use Rattle.tier_join.proofs.Telling.{groups_begin}
use Rattle.tier_join.proofs.ends.groups_begin.Goals as goal

pub returns : goal.returns
returns c = groups_begin
