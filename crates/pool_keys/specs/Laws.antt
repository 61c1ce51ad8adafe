-- What follows from the definitions, in plain words.
use Rattle.std.specs.Prelude.{◌≡◌, ◌↔◌, ◌⊎◌, ℕ, true, List, Option, Result, Ok, Err}
use Rattle.std.specs.FinMap as fin
use Rattle.std.specs.declared.cmp.Ordering.TheVariants.{Less}
use Rattle.tier_outside.specs.Moments.{grown}
use Rattle.obj_model.specs.Names.{name_cmp}
use Rattle.obj_model.specs.declared.change.Change.{Change}
use Rattle.obj_model.specs.declared.state.NameState.{NameState}
use Rattle.obj_ops.specs.Stores.{Store, state_of}
use Rattle.store_face.specs.Calls.{Committed, Got, Made, Reopened}
use Rattle.store_face.specs.Tables.{Table, changed_by}
use Rattle.store_face.specs.Views.{CrashMaps, Sound, StoreView}
use Rattle.store_face.specs.declared.fault.StoreFault.{StoreFault}
use Rattle.store_face.specs.declared.fault.StoreFault.TheVariants.{Disk, BadImage, NoSpace, Worn, NoMemory}
use Rattle.pool_keys.specs.declared.key.PoolKey.{PoolKey}
use Rattle.pool_keys.specs.Keys.{IsOf, epoch_key, record_key, state_key}
use Rattle.pool_keys.specs.Left.{IsBefore, IsLeft, IsLeftSince, Tells}
use Rattle.pool_keys.specs.Maps.{IsBaseMap, IsCacheMap, Recs, SpellsBase, SpellsCache}
use Rattle.pool_keys.specs.Values.{IsEpochOf, IsRecOf, IsStateOf}
use Rattle.tier_types.specs.declared.record.TierRec.{TierRec}

-- ---- keys

-- a key is of one kind, and of one name
abbrev pub KeyIsOne : Type 0
KeyIsOne = (key : List ℕ) (a b : PoolKey) → IsOf key a → IsOf key b → a ≡ b

-- keys of names rise as the names do, and the key of the epoch is below them
pub record KeysRise : Type 0 where
  pub states : (a b : List ℕ) → name_cmp (state_key a) (state_key b) ≡ name_cmp a b
  pub records : (a b : List ℕ) → name_cmp (record_key a) (record_key b) ≡ name_cmp a b
  pub state_behind : (a : List ℕ) → name_cmp epoch_key (state_key a) ≡ Less
  pub record_behind : (a : List ℕ) → name_cmp epoch_key (record_key a) ≡ Less

-- ---- values and maps

-- a pool is at one epoch
abbrev pub EpochIsOne : Type 0
EpochIsOne = (value : Option (List ℕ)) (a b : ℕ) → IsEpochOf value a → IsEpochOf value b → a ≡ b

-- the base has one state of a name
abbrev pub StateIsOne : Type 0
StateIsOne =
    (value : Option (List ℕ)) (s t : NameState) → IsStateOf value s → IsStateOf value t → s ≡ t

-- the cache has one record of a name, or none
abbrev pub RecordIsOne : Type 0
RecordIsOne =
    (value : Option (List ℕ)) (r q : Option TierRec) → IsRecOf value r → IsRecOf value q → r ≡ q

-- a base's map stands for a plain store at an epoch
pub record StandsForBase (y : Table) : Type 0 where
  pub base : Store
  pub epoch : ℕ
  pub spells : SpellsBase y base epoch

-- a base's map whose keys and values are all spelled stands for a plain store
abbrev pub BaseStands : Type 0
BaseStands = (y : Table) → IsBaseMap y → StandsForBase y

-- two stores have the same state of each name
abbrev pub SameStates : Store → Store → Type 0
SameStates base other = (name : List ℕ) → state_of base name ≡ state_of other name

-- a base's map stands for one store, at one epoch
abbrev pub BaseIsOne : Type 0
BaseIsOne =
    (y : Table) (base other : Store) (epoch later : ℕ) → SpellsBase y base epoch
    → SpellsBase y other later
    → SameStates base other × (epoch ≡ later)

-- a cache's map stands for records at an epoch
pub record StandsForCache (x : Table) : Type 0 where
  pub recs : Recs
  pub epoch : ℕ
  pub spells : SpellsCache x recs epoch

-- a cache's map whose keys and values are all spelled stands for records
abbrev pub CacheStands : Type 0
CacheStands = (x : Table) → IsCacheMap x → StandsForCache x

-- a cache's map stands for one map of records, at one epoch
abbrev pub CacheIsOne : Type 0
CacheIsOne =
    (x : Table) (recs others : Recs) (epoch later : ℕ) → SpellsCache x recs epoch
    → SpellsCache x others later
    → (recs ≡ others) × (epoch ≡ later)

-- ---- what a stop may leave

-- the map before, with the changes
pub record IsChanged (changes : List Change) (old : StoreView) (t : Table) : Type 0 where
  pub was : Table
  pub before : IsBefore old was
  pub is : t ≡ changed_by was changes

-- what a stop leaves was left before, or is the map before with the changes
abbrev pub IsLeftOrChanged : List Change → StoreView → Table → Type 0
IsLeftOrChanged changes old t = IsLeft old t ⊎ IsChanged changes old t

-- what a stop leaves since a commit began
abbrev pub LeftByCommit : List Change → StoreView → Result (Unit {0}) StoreFault → Table → Type 0
LeftByCommit changes old (Ok done) t = IsLeftOrChanged changes old t
LeftByCommit changes old (Err Disk) t = IsLeftOrChanged changes old t
LeftByCommit changes old (Err (BadImage at)) t = ⊥
LeftByCommit changes old (Err (NoSpace used need limit)) t = IsLeft old t
LeftByCommit changes old (Err (Worn limit)) t = IsLeft old t
LeftByCommit changes old (Err NoMemory) t = IsLeft old t

abbrev pub CommitsLeave : Type 0
CommitsLeave =
    (changes : List Change) (old new : StoreView) (result : Result (Unit {0}) StoreFault)
    → Committed changes old new result → (t : Table) → IsLeftSince old new t
    → LeftByCommit changes old result t

abbrev pub DoneLeaves : Type 0
DoneLeaves =
    (changes : List Change) (old new : StoreView) → Made changes old new → (t : Table)
    → IsLeft new t → IsChanged changes old t

-- what a reading gives
abbrev pub Reading : Type 0
Reading = Result (Option (List ℕ)) StoreFault

-- a reading gave the value of each map that is left; one that failed says nothing of it
abbrev pub GaveOf : List ℕ → Result (Option (List ℕ)) StoreFault → Table → Type 0
GaveOf key (Ok value) t = value ≡ fin.get t key
GaveOf key (Err fault) t = Unit {0}

-- a reading leaves the moments
pub record LeftByReading (key : List ℕ) (old new : StoreView) (result : Reading) : Type 0 where
  pub same : new.moments ≡ old.moments
  pub since : (t : Table) → IsLeftSince old new t → IsLeft old t
  pub gave : (t : Table) → IsBefore old t → GaveOf key result t

abbrev pub ReadingsLeave : Type 0
ReadingsLeave =
    (key : List ℕ) (old new : StoreView) (result : Result (Option (List ℕ)) StoreFault)
    → Got key old new result → LeftByReading key old new result

abbrev pub ReopeningsLeave : Type 0
ReopeningsLeave =
    (old new : StoreView) (result : Result (Unit {0}) StoreFault)
    → Reopened old new result → (t : Table) → IsLeftSince old new t → IsLeft old t

abbrev pub NowIsSince : Type 0
NowIsSince =
    (old new : StoreView) (more : List CrashMaps)
    → new.moments ≡ grown old.moments more → (t : Table) → IsLeft new t → IsLeftSince old new t

-- each map that is left is the one before, and there is no other
pub record HasOneMap (v : StoreView) : Type 0 where
  pub only : (t u : Table) → IsLeft v t → IsLeft v u → t ≡ u
  pub before : (t : Table) → IsLeft v t → IsBefore v t

abbrev pub LiveHasOne : Type 0
LiveHasOne = (v : StoreView) → Sound v → v.live ≡ true → HasOneMap v

abbrev pub TellsOn : Type 0
TellsOn =
    (old new : StoreView) (more : List CrashMaps) → new.moments ≡ grown old.moments more
    → Tells new ↔ Tells old
