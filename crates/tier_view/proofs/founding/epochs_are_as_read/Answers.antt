use Rattle.tier_view.proofs.FoundingGroups.{epochs_are_as_read}
use Rattle.tier_view.proofs.founding.epochs_are_as_read.Goals as goal

pub returns : goal.returns
returns c = epochs_are_as_read
