use Rattle.std.proofs.Common.{◌≡◌, ◌≤◌, ◌++◌, map, length}
use Rattle.obj_model.specs.Tables.{entries_above}
use Rattle.std.specs.Option.{option_copied}
use Rattle.obj_ops.specs.Effects.{pair_of}
use Rattle.obj_ops.proofs.omap.page.Given as goal

-- the pairs so far and those that are left
abbrev pub invariant-loop-key : goal.invariant-loop-key
invariant-loop-key l = record {
  few : length l.pairs.items ≤ l.max;
  all : l.pairs.items ++ map pair_of l.key-iterator
      ≡ map pair_of (entries_above (option_copied l.after) l.omap);
}
