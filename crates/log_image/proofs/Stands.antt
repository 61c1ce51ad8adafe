-- A log that stands: what its images hold, and how it goes on when a transaction is appended to its
-- journal.
use Rattle.std.specs.Prelude.{◌≡◌, ◌⊎◌, ◌≤◌, ◌+◌, ◌^◌, ℕ, List, [], ◌∷◌, ◌++◌, length, Option, Some}
use Rattle.std.specs.Prelude.{None, refl}
use Rattle.std.specs.FinMap as fin
use Rattle.std.proofs.Common.{◌∙◌, sym, subst, ap, arith, inl, inr}
use Rattle.std.proofs.lemmas.List.{length-take}
use Rattle.obj_model.specs.declared.change.Change.{Change}
use Rattle.obj_model.specs.declared.change.Pool.{Pool}
use Rattle.store_face.specs.Limits.{store_limit}
use Rattle.store_face.specs.Tables.{Table, changed_by}
use Rattle.tier_outside.specs.Disk.{DiskMoment, IsImage, settled, RangeStands, IsSettled}
use Rattle.tier_outside.specs.DiskMoments.{last, Now, Then, Leaves}
use Rattle.tier_outside.proofs.DiskMoments.{since_weaker}
use Rattle.gate_journal.specs.declared.journal.Journal.{Journal}
use Rattle.gate_journal.specs.Journals.{Spells}
use Rattle.gate_journal.specs.Stands.{StandsAs, HoldsWithOrWithout, longer}
use Rattle.gate_journal.proofs.Records.{SameBytes, spells_frame}
use Rattle.gate_journal.proofs.Walks.{stands_same}
use Rattle.pool_map.specs.Pools.{PoolView}
use Rattle.rec_codec.specs.Spelling.{SpellsTxn}
use Rattle.log_image.specs.Calls.{Held}
use Rattle.log_image.specs.Fronts.{IsHeaded}
use Rattle.log_image.specs.Images.{HoldsLog, head, made_by}
use Rattle.log_image.specs.Standing.{IsLogJournal, LogStands, ends_at}
use Rattle.log_image.proofs.Rebuilt.{txns_push, made_push}

-- what is spelled below the end of a log's journal is spelled within the most bytes of a log
log_spelled : (journal : Journal) (image : List ℕ) (payloads : List (List ℕ)) (next : ℕ)
    → IsLogJournal journal → Spells journal.start journal.end image payloads next
    → Spells 0 store_limit image payloads next
log_spelled journal image payloads next is spelled =
    let same : SameBytes journal.start (next + 1) image image =
    record { same = λ i above under. refl } in
    subst (λ (n : ℕ). Spells n store_limit image payloads next) is.start
    (spells_frame journal.start journal.end store_limit image image payloads next spelled same
    (omega (arith, spelled.gate.there, length-take journal.end image))
    (omega (arith, spelled.gate.there, length-take journal.end image, is.end_most)))

-- each image of a moment at which a log stands holds it
pub stands_holds : (role : Pool) (pair : ℕ) (journal : Journal) (table : Table) (d : DiskMoment)
    (image : List ℕ) → LogStands role pair journal table d → IsLogJournal journal → IsImage d image
    → HoldsLog role pair image (record { table = table; used = journal.next + 1 })
stands_holds role pair journal table d image log journal_is is =
    let payloads = head role pair ∷ log.payloads in
    let same = stands_same journal.start (journal.next + 1) d image log.stands.settled is in
    let spelled =
    spells_frame journal.start (journal.next + 1) store_limit d.stable image payloads
    journal.next log.stands.spelled same
    (omega (arith, log.stands.settled.within, is.no_shorter)) journal_is.within in
    record {
      payloads = log.payloads;
      txns = log.txns;
      next = journal.next;
      spelled =
          subst (λ (n : ℕ). Spells n store_limit image payloads journal.next) journal_is.start
          spelled;
      each = log.each;
      made = log.made;
      used_is = refl;
    }

-- a transaction more makes the map with its changes
longer_made : (table : Table) (txns : List (List Change)) (txn : List Change)
    → table ≡ made_by fin.empty txns → changed_by table txn ≡ made_by fin.empty (txns ++ txn ∷ [])
longer_made table txns txn made =
    ap (λ (t : Table). changed_by t txn) made ∙ sym (made_push fin.empty txns txn)

-- An image that holds the payloads of a log with or without a transaction more holds the log with
-- or without its changes.
pub longer_holds : (role : Pool) (pair : ℕ) (journal : Journal) (table : Table) (d : DiskMoment)
    (payload : List ℕ) (txn : List Change) (image : List ℕ)
    (log : LogStands role pair journal table d)
    → IsLogJournal journal → SpellsTxn payload txn
    → HoldsWithOrWithout journal (head role pair ∷ log.payloads) payload image
    → HoldsLog role pair image (record { table = table; used = journal.next + 1 })
    ⊎ HoldsLog role pair image (record
    { table = changed_by table txn; used = journal.next + 6 + length payload })
longer_holds role pair journal table d payload txn image log journal_is is (inl without) =
    inl (record {
      payloads = log.payloads;
      txns = log.txns;
      next = journal.next;
      spelled =
          log_spelled journal image (head role pair ∷ log.payloads) journal.next journal_is without;
      each = log.each;
      made = log.made;
      used_is = refl;
    })
longer_holds role pair journal table d payload txn image log journal_is is (inr with) =
    inr (record {
      payloads = log.payloads ++ payload ∷ [];
      txns = log.txns ++ txn ∷ [];
      next = journal.next + 5 + length payload;
      spelled =
          log_spelled journal image (head role pair ∷ (log.payloads ++ payload ∷ []))
          (journal.next + 5 + length payload) journal_is with;
      each = txns_push log.payloads log.txns payload txn log.each is;
      made = longer_made table log.txns txn log.made;
      used_is = omega arith;
    })

-- the log stands with the changes of the transaction that was appended
pub longer_stands : (role : Pool) (pair : ℕ) (journal : Journal) (table : Table) (d e : DiskMoment)
    (payload : List ℕ) (txn : List Change) (log : LogStands role pair journal table d)
    → SpellsTxn payload txn → StandsAs (longer journal payload)
    ((head role pair ∷ log.payloads) ++ payload ∷ []) e
    → LogStands role pair (longer journal payload) (changed_by table txn) e
longer_stands role pair journal table d e payload txn log is stands = record {
  payloads = log.payloads ++ payload ∷ [];
  txns = log.txns ++ txn ∷ [];
  stands = stands;
  each = txns_push log.payloads log.txns payload txn log.each is;
  made = longer_made table log.txns txn log.made;
}

-- what was appended fits below the end
pub longer_journal : (journal : Journal) (payload : List ℕ) → IsLogJournal journal
    → journal.next + 1 + (length payload + 5) ≤ journal.end → IsLogJournal (longer journal payload)
longer_journal journal payload is fits =
    record { start = is.start; end_most = is.end_most; within = omega (arith, fits, is.end_most) }

-- a log stands whatever the end of its journal is
pub stands_ended : (role : Pool) (pair end : ℕ) (journal : Journal) (table : Table) (d : DiskMoment)
    → LogStands role pair journal table d → LogStands role pair (ends_at end journal) table d
stands_ended role pair end journal table d log = record {
  payloads = log.payloads;
  txns = log.txns;
  stands = record { settled = log.stands.settled; spelled = log.stands.spelled };
  each = log.each;
  made = log.made;
}

-- each image of each moment of a call of `append` holds the log with or without the changes
pub append_holds : (role : Pool) (pair : ℕ) (journal : Journal) (table : Table) (payload : List ℕ)
    (txn : List Change) (old new : Option (List DiskMoment))
    → Now old (LogStands role pair journal table)
    → IsLogJournal journal → SpellsTxn payload txn
    → Leaves old new (λ d image. (payloads : List (List ℕ)) → StandsAs journal payloads d
    → HoldsWithOrWithout journal payloads payload image)
    → Leaves old new (λ d image. HoldsLog role pair image
    (record { table = table; used = journal.next + 1 })
    ⊎ HoldsLog role pair image (record
    { table = changed_by table txn; used = journal.next + 6 + length payload }))
append_holds role pair journal table payload txn None new log journal_is is leaves =
    since_weaker None new _ _ (λ image kept. tt) leaves
append_holds role pair journal table payload txn (Some ds) new log journal_is is leaves =
    since_weaker (Some ds) new _ _
    (λ image kept. longer_holds role pair journal table
    (last ds) payload txn image log journal_is is (kept (head role pair ∷ log.payloads) log.stands))
    leaves

-- and behind its Ok the log stands with the changes
pub append_stands : (role : Pool) (pair : ℕ) (journal after : Journal) (table : Table)
    (payload : List ℕ) (txn : List Change) (old new : Option (List DiskMoment))
    → Now old (LogStands role pair journal table) → SpellsTxn payload txn
    → after ≡ longer journal payload
    → Then old new (λ d e. (payloads : List (List ℕ)) → StandsAs journal payloads d
    → StandsAs after (payloads ++ payload ∷ []) e)
    → Then old new (λ d e. LogStands role pair after (changed_by table txn) e)
append_stands role pair journal after table payload txn None new log is after_is stands = tt
append_stands role pair journal after table payload txn (Some ds) None log is after_is stands = tt
append_stands role pair journal after table payload txn (Some ds) (Some es) log is after_is stands =
    subst (λ (j : Journal). LogStands role pair j (changed_by table txn) (last es)) (sym after_is)
    (longer_stands role pair journal table (last ds) (last es) payload txn log is
    (subst (λ (j : Journal). StandsAs j ((head role pair ∷ log.payloads) ++ payload ∷ []) (last es))
    after_is (stands (head role pair ∷ log.payloads) log.stands)))

-- all of a settled disk stands
pub settled_range : (d : DiskMoment) (from to : ℕ) → IsSettled d → to ≤ length d.content
    → RangeStands from to d
settled_range d from to is long =
    subst (λ (e : DiskMoment). RangeStands from to e) (sym is)
    (record { there = long; within = long; untouched = λ i above below. refl })

-- a log that was read of a settled disk stands
pub held_stands : (role : Pool) (pair : ℕ) (moments : Option (List DiskMoment)) (journal : Journal)
    (map : PoolView) → Held moments journal map → Now moments IsSettled
    → Now moments (λ d. IsHeaded role pair d.content)
    → Now moments (LogStands role pair journal map.table)
held_stands role pair None journal map held settled headed = tt
held_stands role pair (Some ds) journal map held settled headed =
    let holds = held.holds role pair headed in
    held.stands role pair headed
    (settled_range (last ds) 0 (journal.next + 1) settled
    (omega (
      arith,
      holds.used_is,
      holds.spelled.gate.there,
      length-take (2 ^ 40) (last ds).content,
    )))
