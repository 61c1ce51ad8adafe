-- The total is what the entries so far weigh.
use Rattle.std.proofs.Common.{◌≡◌, sum_by, take}
use Rattle.tier_chron.specs.Weights.{cut, pair_weight}
use Rattle.tier_chron.proofs.weights.pairs_weight.Given as goal

abbrev pub invariant-loop-pair : goal.invariant-loop-pair
invariant-loop-pair l = l.total ≡ cut (sum_by pair_weight (take l.pair-index l.pairs))
