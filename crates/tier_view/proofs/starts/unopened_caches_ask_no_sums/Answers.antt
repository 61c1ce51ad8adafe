use Rattle.tier_view.proofs.StartingReady.{unopened_caches_ask_no_sums}
use Rattle.tier_view.proofs.starts.unopened_caches_ask_no_sums.Goals as goal

pub returns : goal.returns
returns c = unopened_caches_ask_no_sums
