use Rattle.tier_view.proofs.StartingOpenings.{opening_stores_keeps}
use Rattle.tier_view.proofs.starts.opening_stores_keeps.Goals as goal

pub returns : goal.returns
returns c = opening_stores_keeps
