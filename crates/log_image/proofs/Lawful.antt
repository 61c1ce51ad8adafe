-- The map of a log is within the limits of a store: the log has each of its bytes.
use Rattle.std.specs.Prelude.{◌≡◌, ◌≤◌, ◌+◌, ℕ, List, [], ◌∷◌, length, take, refl}
use Rattle.std.specs.FinMap as fin
use Rattle.std.specs.List.{flat_map}
use Rattle.std.proofs.Common.{sym, subst, ap, arith}
use Rattle.std.proofs.lemmas.List.{length-append}
use Rattle.byteorder.specs.Endian.{big_bytes}
use Rattle.byteorder.specs.Numbers.{length-bytes_high_first}
use Rattle.obj_model.specs.declared.change.Change.{Change}
use Rattle.obj_model.specs.declared.change.Change.TheVariants.{Put, Remove}
use Rattle.obj_model.specs.declared.change.Pool.{Pool}
use Rattle.tier_outside.specs.Disk.{DiskMoment}
use Rattle.rec_codec.specs.Spelling.{SpellsTxn, change, store_key, string, txn_bytes}
use Rattle.gate_journal.specs.declared.journal.Journal.{Journal}
use Rattle.store_face.specs.Limits.{IsPoolMap, weight}
use Rattle.store_face.specs.Rooms.{change_size, record_size}
use Rattle.store_face.specs.Tables.{Table, changed_by}
use Rattle.store_face.proofs.Weights.{IsLawful, changed_by_most, changed_lawful, empty_lawful}
use Rattle.store_face.proofs.Weights.{empty_weight, record_parts, sizes}
use Rattle.log_image.specs.Images.{AreTxns, head, made_by}
use Rattle.log_image.specs.Steps.Rebuilding.{gate_behind}
use Rattle.log_image.specs.Standing.{IsLogJournal, LogStands}
use Rattle.log_image.proofs.Rebuilt.{records_behind}

-- ---- how long the spelling of a transaction is

change_long : (c : Change) → length (change c) ≡ change_size c
change_long (Put key value) =
    omega (
      arith,
      length-append (store_key key) (string value),
      length-append (big_bytes 2 (length key)) key,
      length-append (big_bytes 4 (length value)) value,
      length-bytes_high_first 2 (length key),
      length-bytes_high_first 4 (length value),
    )
change_long (Remove key) =
    omega (
      arith,
      length-append (big_bytes 2 (length key)) key,
      length-bytes_high_first 2 (length key),
    )

changes_long : (cs : List Change) → length (flat_map change cs) ≡ sizes cs
changes_long [] = refl
changes_long (c ∷ cs) =
    omega (arith, length-append (change c) (flat_map change cs), change_long c, changes_long cs)

-- the record of a transaction takes its payload and five bytes
pub payload_size : (payload : List ℕ) (cs : List Change) → SpellsTxn payload cs
    → record_size cs ≡ length payload + 5
payload_size payload cs is =
    let all : length payload ≡ length (txn_bytes cs) = ap length is.spelled in
    omega (
      arith,
      record_parts cs,
      changes_long cs,
      length-append (big_bytes 1 (length cs)) (flat_map change cs),
      length-bytes_high_first 1 (length cs),
    )

-- ---- what transactions make

pub record IsMade (t : Table) (most : ℕ) : Type 0 where
  pub lawful : IsLawful t
  pub weighs : weight t ≤ most

made_within : (t : Table) (gate : ℕ) (payloads : List (List ℕ)) (txns : List (List Change))
    → AreTxns payloads txns → IsMade t gate → IsMade (made_by t txns) (gate_behind gate payloads)
made_within t gate [] [] each was = was
made_within t gate [] (txn ∷ txns) each was = absurd each
made_within t gate (payload ∷ payloads) [] each was = absurd each
made_within t gate (payload ∷ payloads) (txn ∷ txns) each was =
    made_within (changed_by t txn) (gate + 5 + length payload) payloads txns each.1 record {
      lawful = changed_lawful t txn was.lawful each.0.lawful.each;
      weighs = omega (arith, changed_by_most t txn, payload_size payload txn each.0, was.weighs);
    }

-- the map of a log that stands is that of a store
pub stands_lawful : (role : Pool) (pair : ℕ) (journal : Journal) (table : Table) (d : DiskMoment)
    → LogStands role pair journal table d → IsLogJournal journal → IsPoolMap table
stands_lawful role pair journal table d log is =
    let gate : ℕ = journal.start + 5 + length (head role pair) in
    let made =
    made_within fin.empty gate log.payloads log.txns log.each
    (record { lawful = empty_lawful; weighs = omega (arith, empty_weight) }) in
    let last : gate_behind gate log.payloads ≡ journal.next =
    records_behind (take (journal.next + 1) d.stable) gate log.payloads journal.next
    log.stands.spelled.records.1 in
    subst IsPoolMap (sym log.made)
    (record { each = made.lawful; weighs = omega (arith, made.weighs, last, is.within) })
