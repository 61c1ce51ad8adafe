-- One value is put.
use Rattle.std.proofs.Common.{◌≡◌, ◌≤◌, ℕ, List, [], ◌∷◌, length, Some, Result, Ok, Err, refl, sym, subst, ◌∙◌, ap₂, arith}
use Rattle.std.specs.List.{AllByRecursion}
use Rattle.std.proofs.lemmas.List.Elements.{All-from_recursion}
use Rattle.byteorder.specs.Endian.{big_bytes}
use Rattle.byteorder.specs.Numbers.{length-bytes_high_first}
use Rattle.obj_model.specs.Changes.{IsChange, IsStoreKey, IsTxn}
use Rattle.obj_model.specs.declared.change.Change.{Change}
use Rattle.obj_model.specs.declared.change.Change.TheVariants.{Put}
use Rattle.obj_model.specs.declared.state.NameState.{NameState}
use Rattle.pool_keys.specs.Keys.{epoch_key, state_key}
use Rattle.pool_keys.specs.Values.{SpellsEpoch}
use Rattle.rec_codec.specs.Spelling.{SpellsState, state_bytes}
use Rattle.store_face.specs.Calls.{Committed}
use Rattle.store_face.specs.Views.{StoreView}
use Rattle.store_face.specs.declared.fault.StoreFault.{StoreFault}
use Rattle.store_face.specs.declared.fault.StoreFault.TheVariants as store
use Rattle.base_pool.specs.Serves.{state_put}
use Rattle.base_pool.specs.Steps.{Spells}
use Rattle.store_face.proofs.Later.{stays_same}

-- one value is a transaction
one_put : (key value : List ℕ) → IsStoreKey key → length value ≤ 16777216 → IsTxn (Put key value ∷ [])
one_put key value named short = record {
  some = omega arith;
  few = omega arith;
  each = All-from_recursion IsChange (Put key value ∷ []) ((named, short), tt);
  apart = (tt, tt);
}

pub state_txn : (key place value : List ℕ) → key ≡ place → IsStoreKey place → length value ≤ 16777216 → IsTxn (Put key value ∷ [])
state_txn key place value same named short = one_put key value (subst IsStoreKey (sym same) named) short

pub state_committed : (key name value bytes : List ℕ) (s : NameState) (a b : StoreView) (result : Result (Unit {0}) StoreFault) → key ≡ state_key name → value ≡ bytes
    → SpellsState bytes s → Committed (Put key value ∷ []) a b result → Committed (state_put (Some name) (Some s)) a b result
state_committed key name value bytes s a b result same e spells h =
    subst (λ (c : Change). Committed (c ∷ []) a b result) (ap₂ Put same (e ∙ spells.spelled)) h

spelled_by : (s : NameState) (result : Result (Unit {0}) StoreFault) → SpellsState (state_bytes s) s → Spells s result
spelled_by s (Ok _) h = h
spelled_by s (Err store.Disk) h = h
spelled_by s (Err (store.BadImage at)) h = h
spelled_by s (Err (store.NoSpace used need limit)) h = h
spelled_by s (Err (store.Worn limit)) h = h
spelled_by s (Err store.NoMemory) h = tt

pub state_spelled : (bytes : List ℕ) (s : NameState) (result : Result (Unit {0}) StoreFault) → SpellsState bytes s → Spells s result
state_spelled bytes s result h = spelled_by s result (record { lawful = h.lawful; typed = h.typed; spelled = refl })

pub epoch_txn : (key value : List ℕ) (epoch : ℕ) → key ≡ epoch_key → IsStoreKey epoch_key → SpellsEpoch value epoch → IsTxn (Put key value ∷ [])
epoch_txn key value epoch same named spells =
    let long : length (big_bytes 8 epoch) ≡ 8 = length-bytes_high_first 8 epoch in
    one_put key value (subst IsStoreKey (sym same) named) (subst (λ v. length v ≤ 16777216) (sym spells.spelled) (omega (arith, long)))

pub epoch_committed : (key value : List ℕ) (epoch : ℕ) (a b : StoreView) (result : Result (Unit {0}) StoreFault) → key ≡ epoch_key → SpellsEpoch value epoch
    → Committed (Put key value ∷ []) a b result → Committed (Put epoch_key (big_bytes 8 epoch) ∷ []) a b result
epoch_committed key value epoch a b result same spells h =
    subst (λ (c : Change). Committed (c ∷ []) a b result) (ap₂ Put same spells.spelled) h

-- what the putting of a state rests on
pub ruleset state_rules = (state_txn, state_committed, state_spelled, stays_same)

-- what the putting of an epoch rests on
pub ruleset epoch_rules = (epoch_txn, epoch_committed, stays_same)
