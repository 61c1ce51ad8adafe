-- What the calls of a store answer and leave.
use Rattle.std.specs.Prelude.{◌≡◌, ◌≤◌, ◌⊎◌, ℕ, true, false, List, take, Option, None, Some, Result, Ok, Err}
use Rattle.std.specs.FinMap as fin
use Rattle.tier_outside.specs.Causes.{Rose}
use Rattle.obj_model.specs.declared.change.Change.{Change}
use Rattle.store_face.specs.declared.fault.StoreFault.{StoreFault}
use Rattle.store_face.specs.declared.fault.StoreFault.TheVariants.{Disk, BadImage, NoSpace, Worn, NoMemory}
use Rattle.store_face.specs.Limits.{generation_limit}
use Rattle.store_face.specs.Rooms.{IsWornOut, Uses}
use Rattle.store_face.specs.Tables.{keys_above}
use Rattle.store_face.specs.Views.{CrashMaps, Durable, Grows, Holds, IsBehind, Lacks, Now, StoreView}

-- nothing changed but the count of faults, which never falls
pub record Stays (old new : StoreView) : Type 0 where
  pub moments : new.moments ≡ old.moments
  pub live : new.live ≡ old.live
  pub room : new.room ≡ old.room
  pub used : new.used ≡ old.used
  pub later : old.faults ≤ new.faults

-- the store is not live; it still counts as much as used up, of the same room
pub record Closes (old new : StoreView) : Type 0 where
  pub live : new.live ≡ false
  pub room : new.room ≡ old.room
  pub used : new.used ≡ old.used
  pub later : old.faults ≤ new.faults

-- the disk failed: its count rose, and the store is not live
pub record Fails (old new : StoreView) : Type 0 where
  pub closes : Closes old new
  pub rose : Rose old.faults new.faults

-- a failed reading changed no map; only the disk and want of memory make one fail
abbrev pub ReadFails : StoreFault → StoreView → StoreView → Type 0
ReadFails Disk old new = Fails old new × (new.moments ≡ old.moments)
ReadFails (BadImage at) old new = ⊥
ReadFails (NoSpace used need limit) old new = ⊥
ReadFails (Worn limit) old new = ⊥
ReadFails NoMemory old new = Stays old new

-- `get` gives the map's value and changes nothing
abbrev pub Got : List ℕ → StoreView → StoreView → Result (Option (List ℕ)) StoreFault → Type 0
Got key old new (Ok value) = Stays old new × Holds old (λ t. value ≡ fin.get t key)
Got key old new (Err fault) = ReadFails fault old new

-- `keys_after` gives the map's first keys above the bound and changes nothing
abbrev pub Listed : Option (List ℕ) → ℕ → StoreView → StoreView → Result (List (List ℕ)) StoreFault
    → Type 0
Listed bound most old new (Ok keys) =
    Stays old new × Holds old (λ t. keys ≡ take most (keys_above bound t))
Listed bound most old new (Err fault) = ReadFails fault old new

-- each of the two that a crash may leave has P
pub record Both (P : Durable → Type 0) (s : CrashMaps) : Type 0 where
  pub before : P s.before
  pub after : P s.after

-- at each moment since, a crash leaves what it left before, or that with the changes
abbrev pub Between : List Change → StoreView → StoreView → Type 0
Between changes old new =
    Grows old new (λ was. Both (λ d. (d ≡ was.before) ⊎ IsBehind old.room changes was.before d))

-- the changes were made, and a crash leaves them
pub record Made (changes : List Change) (old new : StoreView) : Type 0 where
  pub fits : Lacks old changes None
  pub between : Between changes old new
  pub now : Now old (λ was. Now new (Both (IsBehind old.room changes was.before)))
  pub live : new.live ≡ true
  pub room : new.room ≡ old.room
  pub used : Uses old.room changes old.used new.used
  pub later : old.faults ≤ new.faults

-- the disk failed while the changes were made, and a crash leaves them or not
pub record MayBeMade (changes : List Change) (old new : StoreView) : Type 0 where
  pub fits : Lacks old changes None
  pub between : Between changes old new
  pub fails : Fails old new

-- `commit` makes all changes; or the disk failed, and a crash leaves all of them or none; or
-- nothing changed, since there was no room for them, with these numbers, or the store is worn out,
-- or there was not the memory
abbrev pub Committed : List Change → StoreView → StoreView → Result (Unit {0}) StoreFault → Type 0
Committed changes old new (Ok done) = Made changes old new
Committed changes old new (Err Disk) = MayBeMade changes old new
Committed changes old new (Err (BadImage at)) = ⊥
Committed changes old new (Err (NoSpace used need limit)) =
    Lacks old changes (Some (record { used = used; need = need; limit = limit })) × Stays old new
Committed changes old new (Err (Worn limit)) =
    Lacks old changes None × IsWornOut old.room old.used × (limit ≡ generation_limit)
    × Stays old new
Committed changes old new (Err NoMemory) = Stays old new

-- at each moment since, a crash leaves what a crash would have left before
abbrev pub Among : StoreView → StoreView → Type 0
Among old new = Grows old new (λ was. Both (λ d. (d ≡ was.before) ⊎ (d ≡ was.after)))

-- the store was opened anew
pub record Opens (old new : StoreView) : Type 0 where
  pub among : Among old new
  pub now : Now old (λ was. Now new (Both (λ d. (d ≡ was.before) ⊎ (d ≡ was.after))))
  pub live : new.live ≡ true
  pub room : new.room ≡ old.room
  pub later : old.faults ≤ new.faults

-- `reopen` gives one of the maps that a crash would have left, with what was used up of the room
-- there; where the disk tells its content, that is always a store
abbrev pub Reopened : StoreView → StoreView → Result (Unit {0}) StoreFault → Type 0
Reopened old new (Ok done) = Opens old new
Reopened old new (Err Disk) = Among old new × Fails old new
Reopened old new (Err (BadImage at)) =
    (old.moments ≡ None) × (new.moments ≡ None) × Closes old new
Reopened old new (Err (NoSpace used need limit)) = ⊥
Reopened old new (Err (Worn limit)) = ⊥
Reopened old new (Err NoMemory) = Among old new × Closes old new
