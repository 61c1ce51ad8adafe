-- What the values under the keys of a pool's map spell.
use Rattle.std.specs.Prelude.{◌≡◌, ◌≤◌, ℕ, List, Option, Some, None}
use Rattle.std.specs.FinMap as fin
use Rattle.byteorder.specs.Endian.{big_bytes}
use Rattle.obj_model.specs.Limits.{number_limit}
use Rattle.obj_model.specs.States.{unknown}
use Rattle.obj_model.specs.declared.state.NameState.{NameState}
use Rattle.pool_keys.specs.Keys.{epoch_key}
use Rattle.rec_codec.specs.Spelling.{SpellsState, SpellsTier}
use Rattle.store_face.specs.Tables.{Table}
use Rattle.tier_types.specs.declared.record.TierRec.{TierRec}

-- an epoch is a number from 1 to 2^62 in eight bytes, the highest first
pub record SpellsEpoch (bytes : List ℕ) (epoch : ℕ) : Type 0 where
  pub spelled : bytes ≡ big_bytes 8 epoch
  pub least : 1 ≤ epoch
  pub most : epoch ≤ number_limit

-- a pool is at this epoch; without a value it is at 0
abbrev pub IsEpochOf : Option (List ℕ) → ℕ → Type 0
IsEpochOf None epoch = epoch ≡ 0
IsEpochOf (Some bytes) epoch = SpellsEpoch bytes epoch

-- the map is at this epoch
abbrev pub IsAtEpoch : ℕ → Table → Type 0
IsAtEpoch epoch t = IsEpochOf (fin.get t epoch_key) epoch

-- The base has this state of a name; without a value it is the unknown one. A value may spell the
-- unknown state too: no call of a base puts it, but an image that came from elsewhere may have it,
-- and it says no other than no value does.
abbrev pub IsStateOf : Option (List ℕ) → NameState → Type 0
IsStateOf None s = s ≡ unknown
IsStateOf (Some bytes) s = SpellsState bytes s

-- the cache has this record of a name, or none; without a value it has none
abbrev pub IsRecOf : Option (List ℕ) → Option TierRec → Type 0
IsRecOf None None = Unit {0}
IsRecOf None (Some r) = ⊥
IsRecOf (Some bytes) None = ⊥
IsRecOf (Some bytes) (Some r) = SpellsTier bytes r.state r.dirty r.mtime
