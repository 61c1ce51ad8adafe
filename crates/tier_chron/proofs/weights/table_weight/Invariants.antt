-- The total, with what is left, is what the whole table weighs.
use Rattle.std.proofs.Common.{◌≡◌, ◌+◌, ◌-◌, ◌^◌, ◌≤◌, length, sum_by}
use Rattle.tier_chron.specs.Weights.{cut, table_weight}
use Rattle.tier_chron.proofs.weights.table_weight.Given as goal

abbrev pub invariant-loop-key : goal.invariant-loop-key
invariant-loop-key l =
    (l.total ≤ 2 ^ 64 - 1)
    × (cut (l.total + sum_by (λ e. length e.0 + length e.1) l.key-iterator) ≡ cut (table_weight l.table))
