-- How the journal's calls end.
use Rattle.std.specs.Prelude.{◌≡◌, ℕ, ◌+◌, ◌<◌, ◌≤◌, List, Option, Result, Ok, Err}
use Rattle.store_face.specs.declared.fault.StoreFault.{StoreFault}
use Rattle.store_face.specs.declared.fault.StoreFault.TheVariants.{Disk, BadImage, NoSpace, Worn}
use Rattle.store_face.specs.declared.fault.StoreFault.TheVariants.{NoMemory}
use Rattle.tier_outside.specs.Disk.{DiskMoment}
use Rattle.tier_outside.specs.DiskMoments.{Now}
use Rattle.gate_journal.specs.Journals.{Means, Spelled, Broken}
use Rattle.gate_journal.specs.declared.journal.Journal.{Journal}

-- A record of `need` bytes is added behind `used` ones, below a limit. It is refused for space
-- exactly where it does not fit. Without space or memory all is as before; the disk is blamed only
-- where it failed.
abbrev pub AddEnds : {T : Type 0} → (used need limit : ℕ) → (same failed : Type 0)
    → Result T StoreFault → Type 0
AddEnds used need limit same failed (Ok value) = used + need ≤ limit
AddEnds used need limit same failed (Err Disk) = (used + need ≤ limit) × failed
AddEnds used need limit same failed (Err NoMemory) = (used + need ≤ limit) × same
AddEnds used need limit same failed (Err (NoSpace u n l)) =
    (limit < used + need) × (u ≡ used) × (n ≡ need) × (l ≡ limit) × same
AddEnds used need limit same failed (Err (BadImage at)) = ⊥
AddEnds used need limit same failed (Err (Worn l)) = ⊥

-- a journal that a walk over a range found
pub record Found (at end : ℕ) (moments : Option (List DiskMoment)) (journal : Journal)
    (payloads : List (List ℕ)) : Type 0 where
  pub start : journal.start ≡ at
  pub end_is : journal.end ≡ end
  pub order : at ≤ journal.next
  pub within : journal.next < end
  pub spelled : Now moments (λ d. Means at end d.content (Spelled payloads journal.next))

-- A range is walked. It is refused as no journal exactly at the gate that breaks it; the disk is
-- blamed only where it failed.
abbrev pub WalkEnds : (at end : ℕ) → Option (List DiskMoment) → (failed : Type 0)
    → Result (Journal × List (List ℕ)) StoreFault → Type 0
WalkEnds at end moments failed (Ok walked) = Found at end moments walked.0 walked.1
WalkEnds at end moments failed (Err (BadImage gate)) =
    Now moments (λ d. Means at end d.content (Broken gate))
WalkEnds at end moments failed (Err Disk) = failed
WalkEnds at end moments failed (Err NoMemory) = Unit {0}
WalkEnds at end moments failed (Err (NoSpace u n l)) = ⊥
WalkEnds at end moments failed (Err (Worn l)) = ⊥
