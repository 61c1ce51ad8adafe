-- A journal on a disk that may stop: what stands of it, and what each image of a moment may hold.
use Rattle.std.specs.Prelude.{◌⊎◌, ℕ, ◌+◌, ◌<◌, ◌≤◌, List, [], ◌∷◌, ◌++◌, length}
use Rattle.tier_outside.specs.Disk.{disk_limit, DiskMoment, RangeStands, written}
use Rattle.gate_journal.specs.Journals.{Spells, behind_gate}
use Rattle.gate_journal.specs.declared.journal.Journal.{Journal}

-- the places of a journal on a disk of at most `disk_limit` bytes
pub record InRange (journal : Journal) : Type 0 where
  pub order : journal.start ≤ journal.next
  pub last : journal.next < disk_limit
  pub limit : journal.end ≤ disk_limit

-- The journal stands on the disk with these payloads, whatever a stop leaves: its bytes up to its
-- closed gate are settled, and spell them. Its end has no part in it.
pub record StandsAs (journal : Journal) (payloads : List (List ℕ)) (d : DiskMoment) : Type 0 where
  pub settled : RangeStands journal.start (journal.next + 1) d
  pub spelled : Spells journal.start (journal.next + 1) d.stable payloads journal.next

-- it stands with some payloads
abbrev pub Standing : Journal → DiskMoment → Type 0
Standing journal d = (payloads : List (List ℕ)) × StandsAs journal payloads d

-- the journal of no payload yet, whose closed gate is its first byte
abbrev pub gate_alone : ℕ → ℕ → Journal
gate_alone at end = record { start = at; next = at; end = end }

-- the journal behind one more payload
abbrev pub longer : Journal → List ℕ → Journal
longer journal payload =
    record { start = journal.start; next = journal.next + 5 + length payload; end = journal.end }

-- an image holds the payloads, with one more or without it
abbrev pub HoldsWithOrWithout : Journal → List (List ℕ) → List ℕ → List ℕ → Type 0
HoldsWithOrWithout journal payloads payload image =
    Spells journal.start journal.end image payloads journal.next
    ⊎ Spells journal.start journal.end image (payloads ++ payload ∷ [])
    (longer journal payload).next

-- what a disk reads as where the open record of a payload and a closed gate behind it stand at a
-- gate
abbrev pub recorded : ℕ → List ℕ → List ℕ → List ℕ
recorded gate payload old = written gate (1 ∷ behind_gate payload) old
