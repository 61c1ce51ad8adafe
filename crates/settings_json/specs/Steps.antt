-- What the private steps of the reading promise.
use Rattle.std.specs.Prelude.{◌≡◌, List, ℕ, Option, Some, None, Result, Ok, Err}
use Rattle.serde_json.specs.Data.{Data}
use Rattle.obj_model.specs.declared.tier.PoolValues.{PoolValues}
use Rattle.settings_json.specs.declared.fault.SettingsFault.{SettingsFault}
use Rattle.settings_json.specs.declared.fault.SettingsFault.TheVariants as fault
use Rattle.settings_json.specs.declared.table.Misfit.{Misfit}
use Rattle.settings_json.specs.declared.table.Misfit.TheVariants as misfit
use Rattle.settings_json.specs.Settings.{Wrong, Unknown, BadValue}

-- what is wrong with a member of this key
abbrev pub wrong_of : List ℕ → Misfit → Wrong
wrong_of key misfit.Key = Unknown key
wrong_of key misfit.Value = BadValue key

-- the answer of one row of the table
abbrev pub IsRow : List ℕ → Result PoolValues Misfit → Result PoolValues Wrong → Type 0
IsRow key (Ok v) r = r ≡ Ok v
IsRow key (Err m) r = r ≡ Err (wrong_of key m)

-- want of memory where there was some, else no JSON
abbrev pub IsCause : Type 0 → SettingsFault → Type 0
IsCause P fault.NotJson = ¬ P
IsCause P (fault.Unknown key) = ⊥
IsCause P (fault.BadValue key) = ⊥
IsCause P fault.NoMemory = P

-- the bytes read as nothing, or memory was wanting
abbrev pub IsNoData : SettingsFault → Option Data → Type 0
IsNoData fault.NotJson d = d ≡ None
IsNoData (fault.Unknown key) d = ⊥
IsNoData (fault.BadValue key) d = ⊥
IsNoData fault.NoMemory d = Unit {0}
