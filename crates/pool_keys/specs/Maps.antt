-- What the maps of the two pools spell, each as a whole.
use Rattle.std.specs.Prelude.{◌≡◌, ◌⊎◌, ℕ, List, Some}
use Rattle.std.specs.FinMap as fin
use Rattle.obj_model.specs.Names.{name_cmp}
use Rattle.obj_model.specs.declared.state.NameState.{NameState}
use Rattle.obj_ops.specs.Stores.{Store, state_of}
use Rattle.rec_codec.specs.Spelling.{SpellsState, SpellsTier}
use Rattle.store_face.specs.Tables.{Table}
use Rattle.tier_types.specs.declared.record.TierRec.{TierRec}
use Rattle.pool_keys.specs.Keys.{HasPoolKeys, IsKeyOf, epoch_key, record_key, state_key}
use Rattle.pool_keys.specs.Values.{IsEpochOf, IsRecOf, IsStateOf, SpellsEpoch}

-- a base's map spells these states, this epoch, and nothing else
pub record SpellsBase (y : Table) (base : Store) (epoch : ℕ) : Type 0 where
  pub each : (name : List ℕ) → IsStateOf (fin.get y (state_key name)) (state_of base name)
  pub is_epoch : IsEpochOf (fin.get y epoch_key) epoch
  pub keys : HasPoolKeys state_key y

-- records by name
abbrev pub Recs : Type 0
Recs = fin.FinMap name_cmp TierRec

-- a cache's map spells these records, this epoch, and nothing else
pub record SpellsCache (x : Table) (recs : Recs) (epoch : ℕ) : Type 0 where
  pub each : (name : List ℕ) → IsRecOf (fin.get x (record_key name)) (fin.get recs name)
  pub is_epoch : IsEpochOf (fin.get x epoch_key) epoch
  pub keys : HasPoolKeys record_key x

-- a value under the key of a pool's epoch that spells one
pub record IsEpochEntry (key value : List ℕ) : Type 0 where
  pub there : key ≡ epoch_key
  pub epoch : ℕ
  pub spells : SpellsEpoch value epoch

-- a value under the key of a name in the base that spells a state
pub record IsStateEntry (key value : List ℕ) : Type 0 where
  pub name : List ℕ
  pub there : IsKeyOf state_key key name
  pub state : NameState
  pub spells : SpellsState value state

-- each key and each value of a base's map is a spelling
abbrev pub IsBaseMap : Table → Type 0
IsBaseMap y =
    (key value : List ℕ) → fin.get y key ≡ Some value → IsEpochEntry key value
    ⊎ IsStateEntry key value

-- a value under the key of a name in the cache that spells a record
pub record IsRecordEntry (key value : List ℕ) : Type 0 where
  pub name : List ℕ
  pub there : IsKeyOf record_key key name
  pub rec : TierRec
  pub spells : SpellsTier value rec.state rec.dirty rec.mtime

-- each key and each value of a cache's map is a spelling
abbrev pub IsCacheMap : Table → Type 0
IsCacheMap x =
    (key value : List ℕ) → fin.get x key ≡ Some value → IsEpochEntry key value
    ⊎ IsRecordEntry key value
