-- What was read under a key.
use Rattle.std.proofs.Common.{◌≡◌, ◌≤◌, ℕ, List, Option, None, Some, Ok, refl, sym, ap, subst, ◌∙◌, arith}
use Rattle.std.specs.FinMap as fin
use Rattle.std.specs.Option.{IfNone, IfSome}
use Rattle.tier_outside.proofs.Moments.{now_weaker}
use Rattle.pool_keys.specs.Keys.{epoch_key}
use Rattle.pool_keys.specs.Reads.{FindsEpoch, HasNoEpoch}
use Rattle.pool_keys.specs.Values.{IsEpochOf, SpellsEpoch}
use Rattle.store_face.specs.Calls.{Got}
use Rattle.store_face.specs.Tables.{Table}
use Rattle.store_face.specs.Views.{Holds, StoreView, no_map}
use Rattle.store_face.proofs.Later.{stays_same}

-- what holds of the value that was read holds of the map's
pub at_key : (v : StoreView) (key place : List ℕ) (P : Option (List ℕ) → Type 0)
    (value : Option (List ℕ)) → key ≡ place → Holds v (λ t. value ≡ fin.get t key) → P value
    → Holds v (λ t. P (fin.get t place))
at_key v key place P value same h p =
    now_weaker no_map v.moments (λ s. value ≡ fin.get s.before.table key)
    (λ s. P (fin.get s.before.table place))
    (λ s e. subst P (e ∙ ap (fin.get s.before.table) same) p) h

pub no_value : (key : List ℕ) (a b : StoreView) → key ≡ epoch_key → Got key a b (Ok None)
    → FindsEpoch a b (Ok (Some 0))
no_value key a b same h =
    (h.0, omega arith, at_key a key epoch_key (λ o. IsEpochOf o 0) None same h.1 refl)

no_epoch_at : (t : Table) (key value : List ℕ) → key ≡ epoch_key → Some value ≡ fin.get t key
    → ((epoch : ℕ) → SpellsEpoch value epoch → ⊥) → HasNoEpoch t
no_epoch_at t key value same h none =
    record { bytes = value; there = ap (fin.get t) (sym same) ∙ sym h; none = none }

-- what was read of the value is what was found in the store
read_of : (key value : List ℕ) (read : Option ℕ) (a b : StoreView) → key ≡ epoch_key
    → Got key a b (Ok (Some value)) → IfSome read (SpellsEpoch value)
    → IfNone read ((epoch : ℕ) → SpellsEpoch value epoch → ⊥) → FindsEpoch a b (Ok read)
read_of key value None a b same h found none = (
  h.0,
  now_weaker no_map a.moments (λ s. Some value ≡ fin.get s.before.table key)
      (λ s. HasNoEpoch s.before.table)
      (λ s got. no_epoch_at s.before.table key value same got none) h.1,
)
read_of key value (Some epoch) a b same h found none = (
  h.0,
  found.most,
  at_key a key epoch_key (λ o. IsEpochOf o epoch) (Some value) same h.1 found,
)

pub some_value : (key value bytes : List ℕ) (read : Option ℕ) (a b : StoreView)
    → key ≡ epoch_key → bytes ≡ value → Got key a b (Ok (Some value))
    → IfSome read (SpellsEpoch bytes) → IfNone read ((epoch : ℕ) → SpellsEpoch bytes epoch → ⊥)
    → FindsEpoch a b (Ok read)
some_value key value bytes read a b same e h found none =
    read_of key value read a b same h (subst (λ x. IfSome read (SpellsEpoch x)) e found)
    (subst (λ x. IfNone read ((epoch : ℕ) → SpellsEpoch x epoch → ⊥)) e none)

-- what finding the epoch of a store rests on
pub ruleset epoch_found_rules = (no_value, some_value, stays_same)
