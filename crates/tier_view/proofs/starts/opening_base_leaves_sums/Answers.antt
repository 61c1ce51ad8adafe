use Rattle.tier_view.proofs.StartingReady.{opening_base_leaves_sums}
use Rattle.tier_view.proofs.starts.opening_base_leaves_sums.Goals as goal

pub returns : goal.returns
returns c = opening_base_leaves_sums
