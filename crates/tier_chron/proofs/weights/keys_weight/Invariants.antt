-- The total is what the entries so far weigh.
use Rattle.std.proofs.Common.{◌≡◌, length, sum_by, take}
use Rattle.tier_chron.specs.Weights.{cut}
use Rattle.tier_chron.proofs.weights.keys_weight.Given as goal

abbrev pub invariant-loop-key : goal.invariant-loop-key
invariant-loop-key l = l.total ≡ cut (sum_by length (take l.key-index l.keys))
