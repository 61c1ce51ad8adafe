-- A base pool as its callers see it, and what always holds of it.
use Rattle.std.specs.Prelude.{◌≡◌, ◌≤◌, ℕ, Bool, true, List, refl}
use Rattle.std.specs.Coded.{Coded, code_by, coded×, coded_ℕ, coded_bool}
use Rattle.std.specs.FinMap as fin
use Rattle.obj_model.specs.Limits.{number_limit}
use Rattle.obj_model.specs.declared.state.NameState.{NameState}
use Rattle.pool_keys.specs.Keys.{state_key}
use Rattle.pool_keys.specs.Values.{IsAtEpoch, IsStateOf}
use Rattle.store_face.specs.Codes.{coded_store}
use Rattle.store_face.specs.Tables.{Table}
use Rattle.store_face.specs.Views.{Holds, Sound, StoreView}

-- A base: its store; its epoch; and whether that was read since the store was opened.
pub record BaseView : Type 0 where
  pub store : StoreView
  pub epoch : ℕ
  pub opened : Bool

-- it can be read and changed
pub record IsLive (v : BaseView) : Type 0 where
  pub opened : v.opened ≡ true
  pub live : v.store.live ≡ true

-- the map has this state of a name
abbrev pub Has : List ℕ → NameState → Table → Type 0
Has name s t = IsStateOf (fin.get t (state_key name)) s

-- A live base is at the epoch that its map has. Its store has one map then.
pub record SoundBase (v : BaseView) : Type 0 where
  pub sound : Sound v.store
  pub low : v.epoch ≤ number_limit
  pub epoch : v.opened ≡ true → v.store.live ≡ true → Holds v.store (IsAtEpoch v.epoch)

-- ---- how it is written down as a value of contracts

abbrev pub coded_base : Coded BaseView
coded_base =
    code_by (StoreView × (ℕ × Bool)) (coded× coded_store (coded× coded_ℕ coded_bool))
    (λ v. (v.store, (v.epoch, v.opened)))
    (λ c. record { store = c.0; epoch = c.1.0; opened = c.1.1 }) (λ _. refl)
