use Rattle.std.specs.Prelude.{◌≡◌, ◌++◌, length, take}
use Rattle.std.specs.List.{flat_map}
use Rattle.byteorder.specs.Endian.{big_bytes}
use Rattle.rec_codec.specs.Spelling.{change}
use Rattle.rec_codec.proofs.txn.put_txn.Given as goal

-- the number and the changes so far
abbrev pub invariant-loop-one : goal.invariant-loop-one
invariant-loop-one l = l.out.items ≡ l.fn.out.items ++ big_bytes 1 (length l.changes) ++ flat_map change (take l.one-index l.changes)
