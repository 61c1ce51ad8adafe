-- How a store over a log is opened.
use Rattle.tier_outside.specs.Moments.{told}
use Rattle.std.specs.Prelude.{◌≡◌, ◌≢◌, ◌⊎◌, ℕ, List, [], ◌∷◌, Option, Result, Ok, Err, true}
use Rattle.obj_model.specs.declared.change.Pool.{Pool}
use Rattle.tier_outside.specs.Disk.{DiskMoment, IsImage}
use Rattle.tier_outside.specs.DiskMoments.{Leaves, SomeImage}
use Rattle.store_face.specs.declared.fault.StoreFault.{StoreFault}
use Rattle.store_face.specs.declared.fault.StoreFault.TheVariants as store
use Rattle.store_face.specs.Tables.{Table}
use Rattle.store_face.specs.Views.{Durable, alone}
use Rattle.log_image.specs.Images.{HoldsLog, IsBlank, IsEmpty, no_txns}
use Rattle.log_image.specs.Fronts.{IsBad, IsHeaded, IsMisheaded, IsOf}
use Rattle.log_store.specs.Views.{LogView}
use Rattle.log_store.specs.declared.fault.AttachFault.{AttachFault}
use Rattle.log_store.specs.declared.fault.AttachFault.TheVariants as fault
use Rattle.log_store.specs.declared.fault.Found.{Found}
use Rattle.log_store.specs.declared.fault.Found.TheVariants as found

-- an image is opened as this log: it is blank for the pair, and then the log is new, or it holds
-- the log
abbrev pub OpensAs : Pool → ℕ → Durable → List ℕ → Type 0
OpensAs role pair log image = (IsBlank role pair image × (log ≡ no_txns))
    ⊎ HoldsLog role pair image log

-- What a stop may leave while a store is opened: what a stop might leave before; or, where such an
-- image was blank, one that is still blank, or that holds a log without transactions.
abbrev pub OpeningStops : Pool → ℕ → DiskMoment → List ℕ → Type 0
OpeningStops role pair d image =
    IsImage d image
    ⊎ ((was : List ℕ) × IsImage d was × IsBlank role pair was
    × (IsBlank role pair image ⊎ HoldsLog role pair image no_txns))

-- a store was opened
pub record Opened (role : Pool) (pair room : ℕ) (moments : Option (List DiskMoment)) (v : LogView) :
    Type 0 where
  pub live : v.live ≡ true
  pub role_is : v.role ≡ role
  pub pair_is : v.pair ≡ pair
  pub room_is : v.room ≡ room
  pub table : Table
  pub told_is : v.moments ≡ told v.disk (alone (record { table = table; used = v.used }) ∷ [])
  pub from : SomeImage moments (OpensAs role pair (record { table = table; used = v.used }))

-- Why a store was not opened: the disk failed, or what a stop left of it is no log of the pool, or
-- one of another pair.
abbrev pub Refused : Pool → ℕ → Option (List DiskMoment) → (failed : Type 0) → AttachFault → Type 0
Refused role pair moments failed fault.Disk = failed
Refused role pair moments failed (fault.BadImage at) = SomeImage moments
    (λ image. IsBad role pair image at)
Refused role pair moments failed (fault.WrongPair other want) = (want ≡ pair) × (other ≢ pair)
    × SomeImage moments (IsOf role other)
Refused role pair moments failed fault.NoMemory = Unit {0}

-- What is refused for what stands on it is not written: a stop leaves of it what it might have left
-- before.
abbrev pub KeepsRefused : Option (List DiskMoment) → Option (List DiskMoment) → AttachFault → Type 0
KeepsRefused old new fault.Disk = Unit {0}
KeepsRefused old new (fault.BadImage at) = Leaves old new IsImage
KeepsRefused old new (fault.WrongPair other want) = Leaves old new IsImage
KeepsRefused old new fault.NoMemory = Unit {0}

-- what was found by a look: an empty disk, or the pair of the log that it holds; or why it is
-- refused
abbrev pub PeekEnds : Pool → Option (List DiskMoment) → (failed : Type 0) → Result Found AttachFault
    → Type 0
PeekEnds role moments failed (Ok found.Empty) = SomeImage moments (IsEmpty role)
PeekEnds role moments failed (Ok (found.Pair pair)) = SomeImage moments (IsHeaded role pair)
PeekEnds role moments failed (Err fault.Disk) = failed
PeekEnds role moments failed (Err (fault.BadImage at)) = SomeImage moments
    (λ image. IsMisheaded role image at)
PeekEnds role moments failed (Err (fault.WrongPair other want)) = ⊥
PeekEnds role moments failed (Err fault.NoMemory) = ⊥

-- Why a log was not read anew: the disk failed, or what a stop left of it holds no log of the pool
-- and pair.
abbrev pub NotReread : Pool → ℕ → Option (List DiskMoment) → (failed : Type 0) → StoreFault → Type 0
NotReread role pair moments failed store.Disk = failed
NotReread role pair moments failed (store.BadImage at) = SomeImage moments
    (λ image. (log : Durable) → ¬ HoldsLog role pair image log)
NotReread role pair moments failed store.NoMemory = Unit {0}
NotReread role pair moments failed (store.NoSpace used need limit) = ⊥
NotReread role pair moments failed (store.Worn limit) = ⊥
