use Rattle.std.proofs.Common.{subst, sym}
use Rattle.tier_traffic.specs.Left.{AreCounted}
use Rattle.tier_traffic.proofs.Counted.{none_counted}
use Rattle.tier_traffic.proofs.works.Works.new.Goals as goal

pub invariant_of-result : goal.invariant_of-result
invariant_of-result c = subst (AreCounted 0 0) (sym c.new.ensures) none_counted
