use Rattle.std.specs.Option.{option_copied}
use Rattle.obj_model.specs.Tables.{entries_above}
use Rattle.copy_chunk.specs.Cuts.{first_group}
use Rattle.copy_chunk.proofs.Grouping.{Grouped}
use Rattle.copy_chunk.proofs.groups.first_group.Given as goal

-- the pairs so far and what is left make the group
abbrev pub invariant-loop-key : goal.invariant-loop-key
invariant-loop-key l =
    Grouped l.pairs.items l.last l.room l.key-iterator
    (first_group (entries_above (option_copied l.after) l.table))
