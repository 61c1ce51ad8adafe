use Rattle.tier_join.proofs.Telling.{epochs_are_memorys}
use Rattle.tier_join.proofs.ends.epochs_are_memorys.Goals as goal

pub returns : goal.returns
returns c = epochs_are_memorys
