use Rattle.tier_view.proofs.FoundingGroups.{stores_stand_anew}
use Rattle.tier_view.proofs.founding.stores_stand_anew.Goals as goal

pub returns : goal.returns
returns c = stores_stand_anew
