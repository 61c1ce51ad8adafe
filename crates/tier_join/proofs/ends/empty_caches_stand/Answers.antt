use Rattle.tier_join.proofs.Empty.{empty_caches_stand}
use Rattle.tier_join.proofs.ends.empty_caches_stand.Goals as goal

pub returns : goal.returns
returns c = empty_caches_stand
