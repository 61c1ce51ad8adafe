-- The total is what the entries so far weigh.
use Rattle.std.proofs.Common.{◌≡◌, sum_by, take}
use Rattle.tier_chron.specs.Weights.{cut, out_weight}
use Rattle.tier_chron.proofs.weights.outs_weight.Given as goal

abbrev pub invariant-loop-out : goal.invariant-loop-out
invariant-loop-out l = l.total ≡ cut (sum_by out_weight (take l.out-index l.outs))
