use Rattle.std.proofs.Common.{◌++◌, map}
use Rattle.std.specs.Vec.Iter.{into_iter_items}
use Rattle.copy_chunk.specs.Chunks.{entry_of}
use Rattle.copy_chunk.proofs.Keys.{goes_on}
use Rattle.copy_chunk.proofs.draft.put_pairs.Goals as goal

pub loop-key-preserved-in-Ok : goal.loop-key-preserved-in-Ok
loop-key-preserved-in-Ok c = record {
  putting =
      goes_on c.args.table.now.entries c.loop-key.table.entries c.insert.new.self.entries
      c.in-Some.field-0 (into_iter_items c.loop-key.key-iterator) (into_iter_items c.next.new.self)
      (c.args.table.now.entries ++ map entry_of c.args.pairs.items) c.loop-key.invariant.putting
      c.in-Some.ensures.steps.0 c.in-Ok.ensures.entries;
  count = c.loop-key.invariant.count;
}

pub loop-key-preserved-in-Ok-2 : goal.loop-key-preserved-in-Ok-2
loop-key-preserved-in-Ok-2 c = record {
  putting =
      goes_on c.args.table.now.entries c.loop-key.table.entries c.insert.new.self.entries
      c.in-Some.field-0 (into_iter_items c.loop-key.key-iterator) (into_iter_items c.next.new.self)
      (c.args.table.now.entries ++ map entry_of c.args.pairs.items) c.loop-key.invariant.putting
      c.in-Some.ensures.steps.0 c.in-Ok.ensures.entries;
  count = c.loop-key.invariant.count;
}
