-- Why two pools cannot be one group: what each cause is, and what it means to be the first.
use Rattle.std.specs.Prelude.{◌≡◌, ◌≢◌, ◌<◌, ◌≤◌, ◌⊎◌, ℕ, Bool, true, false, List, Some}
use Rattle.std.specs.FinMap as fin
use Rattle.std.specs.declared.cmp.Ordering.TheVariants.{Less}
use Rattle.obj_model.specs.Names.{name_cmp}
use Rattle.obj_model.specs.declared.state.NameState.{NameState}
use Rattle.pool_keys.specs.Keys.{record_key, state_key}
use Rattle.pool_keys.specs.Maps.{IsEpochEntry, IsRecordEntry, IsStateEntry}
use Rattle.pool_keys.specs.Values.{IsRecOf, IsStateOf}
use Rattle.store_face.specs.Tables.{Table}
use Rattle.tier_types.specs.declared.record.TierRec.{TierRec}
use Rattle.tier_protocol.specs.Sound.{IsBehind}

-- ---- keys and values

-- a key of a cache with a value that spells what stands there
abbrev pub IsCacheEntry : List ℕ → List ℕ → Type 0
IsCacheEntry key value = IsEpochEntry key value ⊎ IsRecordEntry key value

-- a key of a base with a value that spells what stands there
abbrev pub IsBaseEntry : List ℕ → List ℕ → Type 0
IsBaseEntry key value = IsEpochEntry key value ⊎ IsStateEntry key value

-- the key has a value that is not right, and all keys below it have right ones
pub record IsFirstWrong (IsRight : List ℕ → List ℕ → Type 0) (key : List ℕ) (t : Table) : Type 0
  where
    pub value : List ℕ
    pub there : fin.get t key ≡ Some value
    pub wrong : IsRight key value → ⊥
    pub first : (low other : List ℕ) → name_cmp low key ≡ Less → fin.get t low ≡ Some other
        → IsRight low other

-- ---- epochs

-- the cache was started, and the base is ahead of it
abbrev pub AreEpochs : (cache base : ℕ) → Type 0
AreEpochs cache base = (0 < cache) × (cache < base)

-- the base is not ahead of a cache that was started
abbrev pub AreLevel : (cache base : ℕ) → Type 0
AreLevel cache base = 0 < cache → base ≤ cache

-- ---- records and states

-- a record of this mark and state lies rightly over the base's state: a clean one has that state; a
-- dirty one has had no fewer requests, and where it has had as many, that state
abbrev pub Fits : (dirty : Bool) → (cached based : NameState) → Type 0
Fits false cached based = cached ≡ based
Fits true cached based = IsBehind based cached

-- it does not: a clean one has another state; a dirty one has had fewer requests, or as many and
-- has another state
abbrev pub Clashes : (dirty : Bool) → (cached based : NameState) → Type 0
Clashes false cached based = cached ≢ based
Clashes true cached based = (cached.seq < based.seq) ⊎ ((cached.seq ≡ based.seq)
    × (cached ≢ based))

-- what the two maps have of a name, where the cache has a record
pub record HaveOf (name : List ℕ) (x y : Table) (r : TierRec) (s : NameState) : Type 0 where
  pub cached : IsRecOf (fin.get x (record_key name)) (Some r)
  pub based : IsStateOf (fin.get y (state_key name)) s

-- the record of a name, if there is one, lies rightly over the base's state
abbrev pub FitsAt : List ℕ → Table → Table → Type 0
FitsAt name x y = (r : TierRec) (s : NameState) → HaveOf name x y r s → Fits r.dirty r.state s

-- the record of a name does not
pub record ClashesAt (name : List ℕ) (x y : Table) : Type 0 where
  pub rec : TierRec
  pub based : NameState
  pub have : HaveOf name x y rec based
  pub clash : Clashes rec.dirty rec.state based

-- the first name whose record does not
pub record IsFirstUnsound (name : List ℕ) (x y : Table) : Type 0 where
  pub clashes : ClashesAt name x y
  pub first : (low : List ℕ) → name_cmp low name ≡ Less → FitsAt low x y
