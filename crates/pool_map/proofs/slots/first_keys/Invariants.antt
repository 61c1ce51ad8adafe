use Rattle.std.specs.Prelude.{◌≡◌, ◌≤◌, ◌++◌, length, map}
use Rattle.pool_map.specs.Slots.{rows, with_values}
use Rattle.pool_map.proofs.slots.first_keys.Given as goal

-- the keys so far and those that are left; there are not too many
abbrev pub invariant-loop-key : goal.invariant-loop-key
invariant-loop-key l = record {
  so_far : l.keys.items ++ map (λ e. e.0) (with_values (rows (λ k. k.items) l.key-iterator)) ≡ map (λ e. e.0) (with_values (rows (λ k. k.items) l.fn.slots));
  few : length l.keys.items ≤ l.max;
}
