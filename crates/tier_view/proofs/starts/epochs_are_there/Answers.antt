use Rattle.tier_view.proofs.StartingReady.{epochs_are_there}
use Rattle.tier_view.proofs.starts.epochs_are_there.Goals as goal

pub returns : goal.returns
returns c = epochs_are_there
