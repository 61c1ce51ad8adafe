use Rattle.tier_view.proofs.LocalSums.{sums_follow}
use Rattle.tier_view.proofs.locals.sums_follow.Goals as goal

pub returns : goal.returns
returns c = sums_follow
