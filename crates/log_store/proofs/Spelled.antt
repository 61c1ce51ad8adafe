-- A transaction that is spelled in the buffer of its record.
use Rattle.std.specs.Prelude.{◌≡◌, ◌+◌, ℕ, List, ◌++◌, length, drop, refl}
use Rattle.std.proofs.Common.{◌∙◌, sym, ap, arith}
use Rattle.std.proofs.Math.Seq.{drop-append_seam}
use Rattle.std.proofs.lemmas.List.{length-append}
use Rattle.obj_model.specs.Changes.{IsTxn}
use Rattle.obj_model.specs.declared.change.Change.{Change}
use Rattle.rec_codec.specs.Spelling.{SpellsTxn, txn_bytes}
use Rattle.store_face.specs.Rooms.{record_size}
use Rattle.log_image.proofs.Lawful.{payload_size}

-- what stands behind the place of the length is the transaction
pub spelled_behind : (place buffer : List ℕ) (cs : List Change) → IsTxn cs → length place ≡ 4
    → buffer ≡ place ++ txn_bytes cs → SpellsTxn (drop 4 buffer) cs
spelled_behind place buffer cs lawful four is = record {
  lawful = lawful;
  spelled = ap (drop 4) is ∙ ap (λ n. drop n (place ++ txn_bytes cs)) (sym four)
      ∙ drop-append_seam place (txn_bytes cs);
}

-- the record takes one byte more than its buffer
pub spelled_size : (place buffer : List ℕ) (cs : List Change) → IsTxn cs → length place ≡ 4
    → buffer ≡ place ++ txn_bytes cs → length buffer + 1 ≡ record_size cs
spelled_size place buffer cs lawful four is =
    let spells : SpellsTxn (txn_bytes cs) cs = record { lawful = lawful; spelled = refl } in
    omega (
      arith,
      four,
      ap length is,
      length-append place (txn_bytes cs),
      payload_size (txn_bytes cs) cs spells,
    )
