-- What is known of a store: what a crash may leave of it, moment by moment, and its room.
use Rattle.std.specs.Prelude.{◌≡◌, ℕ, Bool, true, List, Option}
use Rattle.std.specs.FinMap as fin
use Rattle.tier_outside.specs.Moments as moments
use Rattle.obj_model.specs.declared.change.Change.{Change}
use Rattle.store_face.specs.Limits.{IsPoolMap}
use Rattle.store_face.specs.Rooms.{BlockLacks, BlockRoom, Lack, LogLacks, LogRoom, Room, Uses}
use Rattle.store_face.specs.Tables.{Table, changed_by}

-- what a crash leaves: a map, and what is used up of the room for good
pub record Durable : Type 0 where
  pub table : Table
  pub used : ℕ

-- what a crash may leave at one moment: the one or the other
pub record CrashMaps : Type 0 where
  pub before : Durable
  pub after : Durable

-- a crash leaves this alone
abbrev pub alone : Durable → CrashMaps
alone d = record { before = d; after = d }

-- changes were made: of the map, and of what is used up
pub record IsBehind (room : Room) (changes : List Change) (d e : Durable) : Type 0 where
  pub table : e.table ≡ changed_by d.table changes
  pub used : Uses room changes d.used e.used

-- a store: its moments since it was opened, the last of which is now, where its disk tells its
-- content; whether it is live; how often its disk failed; its room, and what is used up of it
pub record StoreView : Type 0 where
  pub moments : Option (List CrashMaps)
  pub live : Bool
  pub faults : ℕ
  pub room : Room
  pub used : ℕ

-- what stands for the moment now of a store that has none yet: no map
abbrev pub no_map : CrashMaps
no_map = alone (record { table = fin.empty; used = 0 })

-- where the store tells, the moment now has P
abbrev pub Now : StoreView → (CrashMaps → Type 0) → Type 0
Now v P = moments.Now no_map v.moments P

-- where the store tells, its one map has P; this is said of a live store
abbrev pub Holds : StoreView → (Table → Type 0) → Type 0
Holds v P = Now v (λ s. P s.before.table)

-- a crash leaves one map, which is within the limits, with so much used up
pub record IsOne (used : ℕ) (s : CrashMaps) : Type 0 where
  pub same : s.before ≡ s.after
  pub counted : s.before.used ≡ used
  pub lawful : IsPoolMap s.before.table

-- a live store has one map, and counts what is used up
abbrev pub Sound : StoreView → Type 0
Sound v = v.live ≡ true → Now v (IsOne v.used)

-- Changes meet this want of room, or none. Of a store in blocks it is said where its disk tells.
abbrev pub Lacks : StoreView → List Change → Option Lack → Type 0
Lacks v changes lack = elim v.room [
  | LogRoom limit ↦ LogLacks limit v.used changes lack
  | BlockRoom blocks area ↦ Holds v (λ t. BlockLacks blocks area t changes lack)
]

-- more moments came, and where the store tells each of them stands so to the one that was now
abbrev pub Grows : StoreView → StoreView → (CrashMaps → CrashMaps → Type 0) → Type 0
Grows old new P = moments.Grows no_map old.moments new.moments P
