-- What reading a record, and the epoch, of a cache answers and leaves.
use Rattle.std.specs.Prelude.{◌≡◌, ◌≤◌, ℕ, List, Option, Some, None, Result, Ok, Err}
use Rattle.std.specs.FinMap as fin
use Rattle.cache_pool.specs.declared.fault.CacheFault.{CacheFault}
use Rattle.cache_pool.specs.declared.fault.CacheFault.TheVariants.{Store, BadRecord}
use Rattle.obj_model.specs.Limits.{number_limit}
use Rattle.obj_model.specs.States.{IsState}
use Rattle.pool_keys.specs.Keys.{epoch_key, record_key}
use Rattle.pool_keys.specs.Values.{IsAtEpoch, IsRecOf}
use Rattle.rec_codec.specs.Spelling.{SpellsTier}
use Rattle.store_face.specs.Calls.{ReadFails, Stays}
use Rattle.store_face.specs.Tables.{Table}
use Rattle.store_face.specs.Views.{Holds, StoreView}
use Rattle.tier_types.specs.declared.record.TierRec.{TierRec}
use Rattle.pool_keys.specs.Reads.{HasNoEpoch}

-- the map has this record of a name, or none
abbrev pub HasRecord : List ℕ → Option TierRec → Table → Type 0
HasRecord name rec t = IsRecOf (fin.get t (record_key name)) rec

-- the value that the map has for a name spells no record
pub record IsUnreadable (name : List ℕ) (t : Table) : Type 0 where
  pub bytes : List ℕ
  pub there : fin.get t (record_key name) ≡ Some bytes
  pub none : (r : TierRec) → SpellsTier bytes r.state r.dirty r.mtime → ⊥

-- a record's state is within its limits
abbrev pub IsLawful : Option TierRec → Type 0
IsLawful None = Unit {0}
IsLawful (Some r) = IsState r.state

-- the record of a name is read, or why it is not
abbrev pub ReadsRecord : List ℕ → StoreView → StoreView → Result (Option TierRec) CacheFault
    → Type 0
ReadsRecord name old new (Ok rec) = IsLawful rec × Holds old (HasRecord name rec) × Stays old new
ReadsRecord name old new (Err (Store fault)) = ReadFails fault old new
ReadsRecord name old new (Err (BadRecord other)) =
    (other ≡ name) × Holds old (IsUnreadable name) × Stays old new

-- the epoch is read, or why it is not; a value that spells none is told with the name E
abbrev pub ReadsEpoch : StoreView → StoreView → Result ℕ CacheFault → Type 0
ReadsEpoch old new (Ok epoch) = (epoch ≤ number_limit) × Holds old (IsAtEpoch epoch) × Stays old new
ReadsEpoch old new (Err (Store fault)) = ReadFails fault old new
ReadsEpoch old new (Err (BadRecord name)) =
    (name ≡ epoch_key) × Holds old HasNoEpoch × Stays old new
