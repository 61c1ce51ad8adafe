use Rattle.std.specs.Prelude.{◌≡◌, ◌++◌, All, length, take}
use Rattle.std.specs.List.{flat_map}
use Rattle.byteorder.specs.Endian.{big_bytes}
use Rattle.rec_codec.specs.Spelling.{sub_op, IsFit}
use Rattle.req_codec.proofs.writing.put_ops.Given as goal

-- the number and the sub-operations so far
abbrev pub invariant-loop-op : goal.invariant-loop-op
invariant-loop-op l = record {
  put : l.out.items ≡ l.fn.out.items ++ big_bytes 1 (length l.ops) ++ flat_map sub_op (take l.op-index l.ops);
  fit : All IsFit (take l.op-index l.ops);
}
