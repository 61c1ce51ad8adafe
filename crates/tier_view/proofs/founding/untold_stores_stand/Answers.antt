use Rattle.tier_view.proofs.FoundingGroups.{untold_stores_stand}
use Rattle.tier_view.proofs.founding.untold_stores_stand.Goals as goal

pub returns : goal.returns
returns c = untold_stores_stand
