use Rattle.std.specs.Prelude.{◌≡◌, ◌≤◌, length, take}
use Rattle.copy_chunk.proofs.draft.cut_back.Given as goal

-- the first entries stand
abbrev pub invariant-loop-table : goal.invariant-loop-table
invariant-loop-table l = record {
  enough : l.count ≤ length l.table.entries;
  front : take l.count l.table.entries ≡ take l.count l.fn.table.entries;
}

abbrev pub decreases-loop-table : goal.decreases-loop-table
decreases-loop-table l = length l.table.entries
