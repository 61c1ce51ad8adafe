use Rattle.tier_join.proofs.Empty.{empty_pairs_stand}
use Rattle.tier_join.proofs.ends.empty_pairs_stand.Goals as goal

pub returns : goal.returns
returns c = empty_pairs_stand
