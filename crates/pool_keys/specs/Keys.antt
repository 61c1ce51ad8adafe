-- The keys of a pool's map: the letter E for its epoch; in the base the letter N and a name for the
-- state of that name; in the cache the letter R and a name for its record.
use Rattle.std.specs.Prelude.{◌≡◌, ◌⊎◌, ℕ, List, [], ◌∷◌, Some, None}
use Rattle.std.specs.FinMap as fin
use Rattle.obj_model.specs.Names.{name_fault}
use Rattle.store_face.specs.Tables.{Table}
use Rattle.pool_keys.specs.declared.key.PoolKey.{PoolKey}
use Rattle.pool_keys.specs.declared.key.PoolKey.TheVariants.{Epoch, Record, State}

-- the key of a pool's epoch
abbrev pub epoch_key : List ℕ
epoch_key = 0x45 ∷ []

-- the key of a name's state in the base
abbrev pub state_key : List ℕ → List ℕ
state_key name = 0x4e ∷ name

-- the key of a name's record in the cache
abbrev pub record_key : List ℕ → List ℕ
record_key name = 0x52 ∷ name

-- the key is that of a name, by this form of keys
pub record IsKeyOf (key_of : List ℕ → List ℕ) (key name : List ℕ) : Type 0 where
  pub spelled : key ≡ key_of name
  pub lawful : name_fault name ≡ None

-- what a key is of
abbrev pub IsOf : List ℕ → PoolKey → Type 0
IsOf key Epoch = key ≡ epoch_key
IsOf key (State name) = IsKeyOf state_key key name
IsOf key (Record name) = IsKeyOf record_key key name

-- a key of a pool whose names have keys of this form: the epoch's, or a name's
abbrev pub IsPoolKey : (List ℕ → List ℕ) → List ℕ → Type 0
IsPoolKey key_of key = (key ≡ epoch_key) ⊎ ((name : List ℕ) × IsKeyOf key_of key name)

-- a map has no other keys
abbrev pub HasPoolKeys : (List ℕ → List ℕ) → Table → Type 0
HasPoolKeys key_of t = (key value : List ℕ) → fin.get t key ≡ Some value → IsPoolKey key_of key
