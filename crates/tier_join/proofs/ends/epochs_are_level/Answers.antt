use Rattle.tier_join.proofs.Telling.{epochs_are_level}
use Rattle.tier_join.proofs.ends.epochs_are_level.Goals as goal

pub returns : goal.returns
returns c = epochs_are_level
