-- A log on a disk that may stop: what stands of it, and what a stop leaves while it is formatted.
use Rattle.std.specs.Prelude.{◌≡◌, ◌⊎◌, ℕ, ◌<◌, ◌≤◌, List, ◌∷◌}
use Rattle.std.specs.FinMap as fin
use Rattle.obj_model.specs.declared.change.Change.{Change}
use Rattle.obj_model.specs.declared.change.Pool.{Pool}
use Rattle.tier_outside.specs.Disk.{DiskMoment}
use Rattle.gate_journal.specs.Stands.{StandsAs}
use Rattle.gate_journal.specs.declared.journal.Journal.{Journal}
use Rattle.store_face.specs.Limits.{store_limit}
use Rattle.store_face.specs.Tables.{Table}
use Rattle.log_image.specs.Images.{head, AreTxns, made_by, HoldsLog, IsBlank, no_txns}

-- The journal of a log begins with its disk and lies within the most bytes of a log. Its end, which
-- bounds what is appended, may be set anew up to these, also below what is there already.
pub record IsLogJournal (journal : Journal) : Type 0 where
  pub start : journal.start ≡ 0
  pub end_most : journal.end ≤ store_limit
  pub within : journal.next < store_limit

-- the same journal with its end set anew
abbrev pub ends_at : ℕ → Journal → Journal
ends_at end journal = record { start = journal.start; next = journal.next; end = end }

-- The log stands on the disk with this map, whatever a stop leaves: its bytes up to its closed gate
-- are settled.
pub record LogStands (role : Pool) (pair : ℕ) (journal : Journal) (table : Table)
    (d : DiskMoment) : Type 0 where
  pub payloads : List (List ℕ)
  pub txns : List (List Change)
  pub stands : StandsAs journal (head role pair ∷ payloads) d
  pub each : AreTxns payloads txns
  pub made : table ≡ made_by fin.empty txns

-- the journal of a log without transactions
abbrev pub first_journal : Journal
first_journal = record { start = 0; next = 22; end = store_limit }

-- what a stop leaves while a blank disk is formatted: it is still blank, or holds a log without
-- transactions
abbrev pub BlankOrNew : Pool → ℕ → List ℕ → Type 0
BlankOrNew role pair image = IsBlank role pair image ⊎ HoldsLog role pair image no_txns
