use Rattle.tier_view.proofs.FoundingGroups.{stores_stand_as_read}
use Rattle.tier_view.proofs.founding.stores_stand_as_read.Goals as goal

pub returns : goal.returns
returns c = stores_stand_as_read
