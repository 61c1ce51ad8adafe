-- What a base pool has for one name, and how the calls on it end.
use Rattle.std.specs.Prelude.{◌≡◌, ◌≤◌, ◌<◌, ◌+◌, ◌⊎◌, ℕ, true, List, Option, Some, None, Result}
use Rattle.std.specs.Prelude.{Ok, Err}
use Rattle.std.specs.FinMap as fin
use Rattle.obj_model.specs.States.{IsState, unknown}
use Rattle.obj_model.specs.declared.state.NameState.{NameState}
use Rattle.rec_codec.specs.Spelling.{SpellsState}
use Rattle.store_face.specs.Tables.{Table}
use Rattle.store_face.specs.Rooms.{record_size}
use Rattle.store_face.specs.Views.{StoreView, CrashMaps, Durable, Now, Holds}
use Rattle.store_face.specs.Calls.{Stays, Fails}
use Rattle.store_face.specs.declared.fault.StoreFault.{StoreFault}
use Rattle.store_face.specs.declared.fault.StoreFault.TheVariants as store
use Rattle.log_store.specs.Views.{LogView}
use Rattle.tier_tool.specs.Bases.{IsUnreadable}
use Rattle.tier_tool.specs.Costs.{change_of, state_key}
use Rattle.tier_tool.specs.declared.base.LineFault.{LineFault}
use Rattle.tier_tool.specs.declared.base.LineFault.TheVariants.{NoSpace, BadRecord, Disk, NoMemory}

-- what a failed call of the store means for a line; that the image is bad is never answered by a
-- live store, and that it is worn never by a log
abbrev pub line_fault : StoreFault → LineFault
line_fault store.Disk = Disk
line_fault (store.BadImage at) = BadRecord
line_fault (store.NoSpace used need limit) = NoSpace used need limit
line_fault (store.Worn limit) = BadRecord
line_fault store.NoMemory = NoMemory

-- the state that bytes spell, if they spell one
abbrev pub IsKnown : List ℕ → Result NameState LineFault → Type 0
IsKnown bytes (Ok s) = SpellsState bytes s
IsKnown bytes (Err (NoSpace used need limit)) = ⊥
IsKnown bytes (Err BadRecord) = (s : NameState) → ¬ SpellsState bytes s
IsKnown bytes (Err Disk) = ⊥
IsKnown bytes (Err NoMemory) = Unit {0}

-- a value spells this state, and no value stands for the unknown one
abbrev pub IsStateOf : Option (List ℕ) → NameState → Type 0
IsStateOf None s = s ≡ unknown
IsStateOf (Some bytes) s = SpellsState bytes s

-- the map has this state for a name
abbrev pub Has : List ℕ → NameState → Table → Type 0
Has name s t = IsStateOf (fin.get t (state_key name)) s

-- the state of a name was looked up, and no map changed
abbrev pub Found : List ℕ → StoreView → StoreView → Result NameState LineFault → Type 0
Found name old new (Ok s) = IsState s × Holds old (Has name s) × Stays old new
Found name old new (Err (NoSpace used need limit)) = ⊥
Found name old new (Err BadRecord) = Holds old (λ t. IsUnreadable t name) × Stays old new
Found name old new (Err Disk) = Fails old new × (new.moments ≡ old.moments)
Found name old new (Err NoMemory) = Stays old new

-- the map with this state for a name
pub record IsWith (name : List ℕ) (s : NameState) (t u : Table) : Type 0 where
  pub bytes : List ℕ
  pub spells : SpellsState bytes s
  pub is : u ≡ fin.insert t (state_key name) bytes

-- a crash leaves this map with so much used; or the one with this state for a name, and its record
-- used too
abbrev pub WithOrWithout : List ℕ → NameState → Table → (used : ℕ) → Durable → Type 0
WithOrWithout name s t used d =
    ((d.table ≡ t) × (d.used ≡ used))
    ⊎ (IsWith name s t d.table × (d.used ≡ used + record_size (change_of name s)))

-- a crash leaves one of these two
pub record IsTorn (name : List ℕ) (s : NameState) (t : Table) (used : ℕ) (sides : CrashMaps)
    : Type 0 where
  pub before : WithOrWithout name s t used sides.before
  pub after : WithOrWithout name s t used sides.after

-- the state of a name was put into the map; or the disk failed, and a crash leaves the map before
-- or after; or nothing changed
abbrev pub WasPut : List ℕ → NameState → StoreView → StoreView → Result (Unit {0}) LineFault
    → Type 0
WasPut name s old new (Ok done) =
    Holds old (λ t. Holds new (IsWith name s t)) × (new.live ≡ true) × (old.faults ≤ new.faults)
WasPut name s old new (Err (NoSpace used need limit)) = (limit < used + need) × Stays old new
WasPut name s old new (Err BadRecord) = ⊥
WasPut name s old new (Err Disk) =
    Holds old (λ t. Now new (IsTorn name s t old.used)) × Fails old new
WasPut name s old new (Err NoMemory) = Stays old new

-- What the putting of a name's state takes of the room: the record of its change. Where there was
-- no memory for it, nothing changed.
abbrev pub PutUses : List ℕ → NameState → LogView → LogView → Result (Unit {0}) LineFault → Type 0
PutUses name s old new (Ok done) =
    (old.used + record_size (change_of name s) ≤ old.room)
    × (new.used ≡ old.used + record_size (change_of name s))
PutUses name s old new (Err (NoSpace used more limit)) =
    (used ≡ old.used) × (limit ≡ old.room) × (old.room < old.used + more) × (new.used ≡ old.used)
    × (more ≡ record_size (change_of name s))
PutUses name s old new (Err BadRecord) = ⊥
PutUses name s old new (Err Disk) = Unit {0}
PutUses name s old new (Err NoMemory) = new ≡ old
