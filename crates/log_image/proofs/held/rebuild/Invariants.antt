use Rattle.std.proofs.Common.{◌≡◌, length}
use Rattle.std.specs.Vec.Iter.{into_iter_items, into_iter_len}
use Rattle.log_image.proofs.Rebuilt.{Going}
use Rattle.log_image.proofs.held.rebuild.Given as goal

-- the payloads so far are replayed
abbrev pub invariant-loop-payload : goal.invariant-loop-payload
invariant-loop-payload l = record {
  left : into_iter_len l.payload-iterator ≡ length (into_iter_items l.payload-iterator);
  going : Going l.fn.payloads (into_iter_items l.payload-iterator) l.map l.gate;
}
