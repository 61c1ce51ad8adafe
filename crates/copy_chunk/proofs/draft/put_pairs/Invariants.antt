use Rattle.std.specs.Prelude.{◌≡◌, ◌++◌, map, length}
use Rattle.std.specs.Vec.Iter.{into_iter_items}
use Rattle.copy_chunk.specs.Chunks.{entry_of}
use Rattle.copy_chunk.proofs.Keys.{Putting}
use Rattle.copy_chunk.proofs.draft.put_pairs.Given as goal

-- some of the pairs are behind the entries, and the others are left
abbrev pub invariant-loop-key : goal.invariant-loop-key
invariant-loop-key l = record {
  putting : Putting l.fn.table.entries l.table.entries (into_iter_items l.key-iterator)
      (l.fn.table.entries ++ map entry_of l.fn.pairs.items);
  count : l.count ≡ length l.fn.table.entries;
}
