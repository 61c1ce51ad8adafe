-- How the record at a gate is read.
use Rattle.std.specs.Prelude.{◌≡◌, ℕ, ◌+◌, ◌<◌, List, length, take, slice_index, Option, None}
use Rattle.std.specs.Prelude.{Some, Result, Ok, Err}
use Rattle.store_face.specs.declared.fault.StoreFault.{StoreFault}
use Rattle.store_face.specs.declared.fault.StoreFault.TheVariants.{Disk, BadImage, NoSpace, Worn}
use Rattle.store_face.specs.declared.fault.StoreFault.TheVariants.{NoMemory}
use Rattle.tier_outside.specs.Disk.{DiskMoment}
use Rattle.tier_outside.specs.DiskMoments.{Now}
use Rattle.gate_journal.specs.Journals.{IsRecord, IsClosed, IsBroken, size_at}

-- the gate is open, and its length is this
pub record IsOpen (bytes : List ℕ) (gate size : ℕ) : Type 0 where
  pub opened : slice_index bytes gate ≡ 1
  pub size_is : size_at bytes gate ≡ size

-- the head of a record was read below a limit: it is closed, or the length of a payload that is
-- there with a gate behind it
abbrev pub HeadRead : (gate limit : ℕ) → Option (List DiskMoment) → (failed : Type 0)
    → Result (Option ℕ) StoreFault → Type 0
HeadRead gate limit moments failed (Ok None) =
    (gate < limit) × Now moments (λ d. IsClosed (take limit d.content) gate)
HeadRead gate limit moments failed (Ok (Some size)) =
    (gate + 5 + size < limit) × Now moments (λ d. IsOpen (take limit d.content) gate size)
HeadRead gate limit moments failed (Err (BadImage at)) =
    (at ≡ gate) × Now moments (λ d. IsBroken (take limit d.content) gate)
HeadRead gate limit moments failed (Err Disk) = failed
HeadRead gate limit moments failed (Err NoMemory) = ⊥
HeadRead gate limit moments failed (Err (NoSpace u n l)) = ⊥
HeadRead gate limit moments failed (Err (Worn l)) = ⊥

-- a record was read below a limit, or its gate is closed
abbrev pub RecordRead : (gate limit : ℕ) → Option (List DiskMoment) → (failed : Type 0)
    → Result (Option (List ℕ)) StoreFault → Type 0
RecordRead gate limit moments failed (Ok None) =
    (gate < limit) × Now moments (λ d. IsClosed (take limit d.content) gate)
RecordRead gate limit moments failed (Ok (Some payload)) =
    (gate + 5 + length payload < limit)
    × Now moments (λ d. IsRecord (take limit d.content) gate payload)
RecordRead gate limit moments failed (Err (BadImage at)) =
    (at ≡ gate) × Now moments (λ d. IsBroken (take limit d.content) gate)
RecordRead gate limit moments failed (Err Disk) = failed
RecordRead gate limit moments failed (Err NoMemory) = Unit {0}
RecordRead gate limit moments failed (Err (NoSpace u n l)) = ⊥
RecordRead gate limit moments failed (Err (Worn l)) = ⊥
