use Rattle.tier_join.proofs.Telling.{groups_begin_anew}
use Rattle.tier_join.proofs.ends.groups_begin_anew.Goals as goal

pub returns : goal.returns
returns c = groups_begin_anew
