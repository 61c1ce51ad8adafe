-- What attaching a base, opening it anew, and reading a state do.
use Rattle.std.specs.Prelude.{◌≡◌, ◌⊎◌, ◌≤◌, ℕ, true, false, List, Option, Some, None, Result, Ok, Err}
use Rattle.std.specs.FinMap as fin
use Rattle.obj_model.specs.Limits.{number_limit}
use Rattle.obj_model.specs.States.{IsState}
use Rattle.obj_model.specs.declared.state.NameState.{NameState}
use Rattle.store_face.specs.Calls.{Opens, ReadFails, Reopened, Stays}
use Rattle.store_face.specs.Tables.{Table}
use Rattle.store_face.specs.Views.{Holds, StoreView}
use Rattle.pool_keys.specs.Keys.{epoch_key, state_key}
use Rattle.pool_keys.specs.Values.{IsAtEpoch}
use Rattle.rec_codec.specs.Spelling.{SpellsState}
use Rattle.base_pool.specs.Serves.{IsUnreadable, StaysBase}
use Rattle.base_pool.specs.Views.{BaseView, Has}
use Rattle.base_pool.specs.declared.fault.BaseFault.{BaseFault}
use Rattle.base_pool.specs.declared.fault.BaseFault.TheVariants.{Store, BadRecord}
use Rattle.pool_keys.specs.Reads.{HasNoEpoch}

-- the epoch of a store was read, or why it was not; a value that spells none is told with the name
-- E
abbrev pub ReadsEpoch : StoreView → StoreView → Result ℕ BaseFault → Type 0
ReadsEpoch old new (Ok epoch) = Stays old new × (epoch ≤ number_limit) × Holds old (IsAtEpoch epoch)
ReadsEpoch old new (Err (Store fault)) = ReadFails fault old new
ReadsEpoch old new (Err (BadRecord name)) =
    Stays old new × (name ≡ epoch_key) × Holds old HasNoEpoch

-- a base stands on a store, at the epoch of its map
pub record Attaches (store : StoreView) (v : BaseView) : Type 0 where
  pub stays : Stays store v.store
  pub opened : v.opened ≡ true
  pub epoch : Holds store (IsAtEpoch v.epoch)

-- a base was opened anew, at the epoch of the map that was found
pub record OpensBase (old new : BaseView) : Type 0 where
  pub opens : Opens old.store new.store
  pub opened : new.opened ≡ true
  pub epoch : Holds new.store (IsAtEpoch new.epoch)

-- the store was opened anew, and then its epoch was not read
pub record OpensUnread (old new : BaseView) (fault : BaseFault) : Type 0 where
  pub between : StoreView
  pub opens : Opens old.store between
  pub unread : ReadsEpoch between new.store (Err fault)

-- a base that was not opened anew is not live
pub record IsShut (old new : BaseView) : Type 0 where
  pub opened : new.opened ≡ false
  pub epoch : new.epoch ≡ old.epoch

-- a base is opened anew, or why it is not: opening its store failed, or reading its epoch did
abbrev pub ReopensBase : BaseView → BaseView → Result (Unit {0}) BaseFault → Type 0
ReopensBase old new (Ok done) = OpensBase old new
ReopensBase old new (Err (Store fault)) =
    IsShut old new × (Reopened old.store new.store (Err fault) ⊎ OpensUnread old new (Store fault))
ReopensBase old new (Err (BadRecord name)) = IsShut old new × OpensUnread old new (BadRecord name)

-- the state of a name is read, or why it is not
abbrev pub ReadsState : List ℕ → BaseView → BaseView → Result NameState BaseFault → Type 0
ReadsState name old new (Ok s) = IsState s × Holds old.store (Has name s) × StaysBase old new
ReadsState name old new (Err (Store fault)) =
    ReadFails fault old.store new.store × (new.epoch ≡ old.epoch) × (new.opened ≡ old.opened)
ReadsState name old new (Err (BadRecord other)) =
    (other ≡ name) × Holds old.store (IsUnreadable name) × StaysBase old new

-- a value spells a state of this `seq`, and no value none
abbrev pub IsSeqOf : Option (List ℕ) → Option ℕ → Type 0
IsSeqOf None None = Unit {0}
IsSeqOf None (Some seq) = ⊥
IsSeqOf (Some bytes) None = ⊥
IsSeqOf (Some bytes) (Some seq) = (s : NameState) × SpellsState bytes s × (s.seq ≡ seq)

-- the map has a value for the name that spells a state of this `seq`, or none
abbrev pub HasSeq : List ℕ → Option ℕ → Table → Type 0
HasSeq name seq t = IsSeqOf (fin.get t (state_key name)) seq

-- the `seq` of a name's state is read, or why it is not
abbrev pub ReadsSeq : List ℕ → BaseView → BaseView → Result (Option ℕ) BaseFault → Type 0
ReadsSeq name old new (Ok seq) = Holds old.store (HasSeq name seq) × StaysBase old new
ReadsSeq name old new (Err (Store fault)) =
    ReadFails fault old.store new.store × (new.epoch ≡ old.epoch) × (new.opened ≡ old.opened)
ReadsSeq name old new (Err (BadRecord other)) =
    (other ≡ name) × Holds old.store (IsUnreadable name) × StaysBase old new
