use Rattle.tier_join.proofs.Ages.{epochs_never_fall}
use Rattle.tier_join.proofs.rising.epochs_never_fall.Goals as goal

pub returns : goal.returns
returns c = epochs_never_fall
