use Rattle.std.specs.Prelude.{◌≡◌, ◌++◌, All, length, take}
use Rattle.std.specs.List.{flat_map}
use Rattle.byteorder.specs.Endian.{big_bytes}
use Rattle.rec_codec.specs.Spelling.{kept, IsFitReply}
use Rattle.rec_codec.proofs.writing.put_kept_list.Given as goal

-- the number and the kept requests so far
abbrev pub invariant-loop-one : goal.invariant-loop-one
invariant-loop-one l = record {
  put : l.out.items ≡ l.fn.out.items ++ big_bytes 2 (length l.list) ++ flat_map kept (take l.one-index l.list);
  fit : All (λ k. IsFitReply k.reply) (take l.one-index l.list);
}
