-- What the private steps of a base promise.
use Rattle.std.specs.Prelude.{◌≡◌, ℕ, Bool, nat_lt, List, Option, Some, None, IfSome, Result, Ok, Err, if◌then◌else◌}
use Rattle.std.specs.FinMap as fin
use Rattle.obj_model.specs.States.{IsState}
use Rattle.obj_model.specs.declared.state.NameState.{NameState}
use Rattle.store_face.specs.Calls.{ReadFails, Stays}
use Rattle.store_face.specs.Views.{Holds, StoreView}
use Rattle.store_face.specs.declared.fault.StoreFault.{StoreFault}
use Rattle.store_face.specs.declared.fault.StoreFault.TheVariants as store
use Rattle.tier_types.specs.declared.message.BaseMsg.{BaseMsg}
use Rattle.tier_types.specs.declared.message.BaseReply.{BaseReply}
use Rattle.pool_keys.specs.Keys.{state_key}
use Rattle.rec_codec.specs.Spelling.{SpellsState}
use Rattle.base_pool.specs.Serves.{IsSpelled, IsUnreadable}
use Rattle.base_pool.specs.Views.{BaseView, Has}
use Rattle.base_pool.specs.declared.fault.BaseFault.{BaseFault}
use Rattle.base_pool.specs.declared.fault.BaseFault.TheVariants.{Store, BadRecord}
use Rattle.base_pool.specs.declared.kept.Kept.{Kept}

-- a base by its parts
abbrev pub base_of : StoreView → ℕ → Bool → BaseView
base_of store epoch opened = record { store = store; epoch = epoch; opened = opened }

-- the state that is kept in memory is the map's
abbrev pub IsKept : StoreView → Option Kept → Type 0
IsKept v None = Unit {0}
IsKept v (Some k) = IsState k.state × Holds v (Has k.name k.state)

-- a value spells this state, and no value none
abbrev pub IsValueOf : Option (List ℕ) → Option NameState → Type 0
IsValueOf None None = Unit {0}
IsValueOf None (Some s) = ⊥
IsValueOf (Some bytes) None = ⊥
IsValueOf (Some bytes) (Some s) = SpellsState bytes s

-- the value under a name's key was read, or why it was not
abbrev pub FindsValue : List ℕ → StoreView → StoreView → Result (Option NameState) BaseFault
    → Type 0
FindsValue name old new (Ok value) =
    IfSome value IsState × Holds old (λ t. IsValueOf (fin.get t (state_key name)) value)
    × Stays old new
FindsValue name old new (Err (Store fault)) = ReadFails fault old new
FindsValue name old new (Err (BadRecord other)) =
    (other ≡ name) × Holds old (IsUnreadable name) × Stays old new

-- the state of a name was read, or why it was not
abbrev pub Finds : List ℕ → StoreView → StoreView → Result NameState BaseFault → Type 0
Finds name old new (Ok s) = IsState s × Holds old (Has name s) × Stays old new
Finds name old new (Err (Store fault)) = ReadFails fault old new
Finds name old new (Err (BadRecord other)) =
    (other ≡ name) × Holds old (IsUnreadable name) × Stays old new

-- the same, with the state kept
abbrev pub Recalls : List ℕ → StoreView → StoreView → Result Kept BaseFault → Type 0
Recalls name old new (Ok k) =
    (k.name ≡ name) × IsState k.state × Holds old (Has name k.state) × Stays old new
Recalls name old new (Err (Store fault)) = ReadFails fault old new
Recalls name old new (Err (BadRecord other)) =
    (other ≡ name) × Holds old (IsUnreadable name) × Stays old new

-- what bytes spell, or that they spell no state
abbrev pub Decodes : (NameState → Type 0) → Result (Option NameState) StoreFault → Type 0
Decodes P (Ok (Some s)) = P s
Decodes P (Ok None) = (s : NameState) → P s → ⊥
Decodes P (Err fault) = fault ≡ store.NoMemory

-- the state that a commit puts has a spelling, unless there was no memory for it
abbrev pub Spells : NameState → Result (Unit {0}) StoreFault → Type 0
Spells s (Ok done) = IsSpelled (Some s)
Spells s (Err store.Disk) = IsSpelled (Some s)
Spells s (Err (store.BadImage at)) = IsSpelled (Some s)
Spells s (Err (store.NoSpace used need limit)) = IsSpelled (Some s)
Spells s (Err (store.Worn limit)) = IsSpelled (Some s)
Spells s (Err store.NoMemory) = Unit {0}

-- a message of another epoch than the base's is refused
abbrev pub refused_epoch : (have got : ℕ) → Option BaseReply
refused_epoch have got =
    if nat_lt got have then Some (BaseReply.OldEpoch have got)
    else if nat_lt have got then Some (BaseReply.NotFenced have got)
    else None

-- the refusal of a message, if it is refused; a Fence of a greater epoch is not
abbrev pub refusal : ℕ → BaseMsg → Option BaseReply
refusal have (BaseMsg.Fence e) = if nat_lt e have then Some (BaseReply.OldEpoch have e) else None
refusal have (BaseMsg.GetChunk e op name at) = refused_epoch have e
refusal have (BaseMsg.Look e op name v) = refused_epoch have e
refusal have (BaseMsg.Write e op r) = refused_epoch have e
refusal have (BaseMsg.Install e op name s) = refused_epoch have e

-- a commit that failed: want of room is a reply, all else a fault
abbrev pub refused_by : StoreFault → (epoch opid : ℕ) → Result BaseReply BaseFault
refused_by store.Disk e op = Err (Store store.Disk)
refused_by (store.BadImage at) e op = Err (Store (store.BadImage at))
refused_by (store.NoSpace used need limit) e op = Ok (BaseReply.NoSpace e op used need limit)
refused_by (store.Worn limit) e op = Err (Store (store.Worn limit))
refused_by store.NoMemory e op = Err (Store store.NoMemory)
