-- What reading the epoch of a store answers and leaves.
use Rattle.std.specs.Prelude.{◌≡◌, ◌≤◌, ℕ, List, Option, Some, None, Result, Ok, Err}
use Rattle.std.specs.FinMap as fin
use Rattle.obj_model.specs.Limits.{number_limit}
use Rattle.pool_keys.specs.Keys.{epoch_key}
use Rattle.pool_keys.specs.Values.{IsAtEpoch, SpellsEpoch}
use Rattle.store_face.specs.Calls.{ReadFails, Stays}
use Rattle.store_face.specs.Tables.{Table}
use Rattle.store_face.specs.Views.{Holds, StoreView}
use Rattle.store_face.specs.declared.fault.StoreFault.{StoreFault}

-- the value under the key of the epoch spells none
pub record HasNoEpoch (t : Table) : Type 0 where
  pub bytes : List ℕ
  pub there : fin.get t epoch_key ≡ Some bytes
  pub none : (epoch : ℕ) → SpellsEpoch bytes epoch → ⊥

-- the epoch of a store is found, or none where its value spells none, or why it was not read
abbrev pub FindsEpoch : StoreView → StoreView → Result (Option ℕ) StoreFault → Type 0
FindsEpoch old new (Ok (Some epoch)) =
    Stays old new × (epoch ≤ number_limit) × Holds old (IsAtEpoch epoch)
FindsEpoch old new (Ok None) = Stays old new × Holds old HasNoEpoch
FindsEpoch old new (Err fault) = ReadFails fault old new
