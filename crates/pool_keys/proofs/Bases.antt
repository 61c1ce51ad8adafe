-- A base's map stands for one plain store.
use Rattle.std.proofs.Common.{◌≡◌, ◌⊎◌, inl, inr, ℕ, Bool, true, false, cond, List, [], ◌∷◌, Option, Some, None, unwrap_or, refl, sym, subst, ◌∙◌, arith}
use Rattle.std.specs.List.{AllByRecursion}
use Rattle.std.specs.Cmp.Lexicographic.{nat_list_cmp_total}
use Rattle.std.specs.Ordering.{eq_by_cmp}
use Rattle.std.specs.FinMap as fin
use Rattle.obj_model.specs.Names.{name_cmp}
use Rattle.obj_model.specs.States.{unknown}
use Rattle.obj_model.specs.declared.state.NameState.{NameState}
use Rattle.obj_ops.specs.Stores.{state_of}
use Rattle.rec_codec.proofs.Whole.{states_apart}
use Rattle.store_face.specs.Tables.{Table}
use Rattle.pool_keys.specs.Keys.{IsPoolKey, epoch_key, state_key}
use Rattle.pool_keys.specs.Laws.{BaseIsOne, BaseStands, StateIsOne}
use Rattle.pool_keys.specs.Maps.{IsBaseMap, IsEpochEntry, IsStateEntry}
use Rattle.pool_keys.specs.Values.{IsEpochOf, IsStateOf}
use Rattle.pool_keys.proofs.Epochs.{epoch_one}
use Rattle.pool_keys.proofs.Entries.{each_entry}

pub state_one : StateIsOne
state_one None s t h k = h ∙ sym k
state_one (Some bytes) s t h k = (states_apart s t bytes bytes [] [] h k refl).0

-- ---- one store

pub one : BaseIsOne
one y base other epoch later h k = (
  λ name. state_one (fin.get y (state_key name)) (state_of base name) (state_of other name) (h.each name) (k.each name),
  epoch_one (fin.get y epoch_key) epoch later h.is_epoch k.is_epoch,
)

-- ---- there is one

abbrev Entry : Type 0
Entry = List ℕ × List ℕ

-- an entry is one of a base's map
abbrev IsEntry : Entry → Type 0
IsEntry e = IsEpochEntry e.0 e.1 ⊎ IsStateEntry e.0 e.1

-- the states of these entries, by name
abbrev with_entry : (e : Entry) → IsEntry e → List (List ℕ × NameState) → List (List ℕ × NameState)
with_entry e (inl epoch) states = states
with_entry e (inr state) states = (state.name, state.state) ∷ states

abbrev states_in : (es : List Entry) → AllByRecursion IsEntry es → List (List ℕ × NameState)
states_in [] each = []
states_in (e ∷ es) each = with_entry e each.0 (states_in es each.1)

-- what entries have for a name, and the state that was made of it
abbrev Agrees : List ℕ → List Entry → List (List ℕ × NameState) → Type 0
Agrees name es states = IsStateOf (fin.find name_cmp (state_key name) es) (unwrap_or (fin.find name_cmp name states) unknown)

found_or : (b : Bool) (value : List ℕ) (s : NameState) (rest : Option (List ℕ)) (others : Option NameState) → IsStateOf (Some value) s
    → IsStateOf rest (unwrap_or others unknown) → IsStateOf (cond b (Some value) rest) (unwrap_or (cond b (Some s) others) unknown)
found_or true value s rest others here there = here
found_or false value s rest others here there = there

one_more : (name : List ℕ) (e : Entry) (is : IsEntry e) (es : List Entry) (states : List (List ℕ × NameState)) → Agrees name es states
    → Agrees name (e ∷ es) (with_entry e is states)
one_more name e (inl epoch) es states rest =
    subst (λ key. IsStateOf (cond (eq_by_cmp name_cmp (state_key name) key) (Some e.1) (fin.find name_cmp (state_key name) es)) (unwrap_or (fin.find name_cmp name states) unknown))
    (sym epoch.there) rest
one_more name e (inr state) es states rest =
    subst (λ key. IsStateOf (cond (eq_by_cmp name_cmp (state_key name) key) (Some e.1) (fin.find name_cmp (state_key name) es))
    (unwrap_or (cond (eq_by_cmp name_cmp name state.name) (Some state.state) (fin.find name_cmp name states)) unknown))
    (sym state.there.spelled)
    (found_or (eq_by_cmp name_cmp name state.name) e.1 state.state (fin.find name_cmp (state_key name) es) (fin.find name_cmp name states) state.spells rest)

agrees : (name : List ℕ) (es : List Entry) (each : AllByRecursion IsEntry es) → Agrees name es (states_in es each)
agrees name [] each = refl
agrees name (e ∷ es) each = one_more name e each.0 es (states_in es each.1) (agrees name es each.1)

letters : (a b : ℕ) (x y : List ℕ) → a ∷ x ≡ b ∷ y → a ≡ b
letters a b x y e = cc

-- the epoch that a value under the key of the epoch spells
record Epoch (value : Option (List ℕ)) : Type 0 where
  number : ℕ
  is : IsEpochOf value number

epoch_in : (key value : List ℕ) → key ≡ epoch_key → IsEpochEntry key value ⊎ IsStateEntry key value → Epoch (Some value)
epoch_in key value e (inl epoch) = record { number = epoch.epoch; is = epoch.spells }
epoch_in key value e (inr state) = absurd (omega (arith, letters 0x45 0x4e [] state.name (sym e ∙ state.there.spelled)))

epoch_of : (y : Table) → IsBaseMap y → (value : Option (List ℕ)) → fin.get y epoch_key ≡ value → Epoch value
epoch_of y h None e = record { number = 0; is = refl }
epoch_of y h (Some value) e = epoch_in epoch_key value refl (h epoch_key value e)

pool_key : (key value : List ℕ) → IsEpochEntry key value ⊎ IsStateEntry key value → IsPoolKey state_key key
pool_key key value (inl epoch) = inl epoch.there
pool_key key value (inr state) = inr (state.name, state.there)

pub stands : BaseStands
stands y h =
    let each = each_entry (λ k v. IsEpochEntry k v ⊎ IsStateEntry k v) y h in
    let states = states_in (fin.entries y) each in
    let epoch = epoch_of y h (fin.get y epoch_key) refl in
    record {
      base = fin.from_entries states;
      epoch = epoch.number;
      spells = record {
        each = λ name. subst (λ o. IsStateOf o (state_of (fin.from_entries states) name)) (sym (fin.get-entries y (state_key name)))
            (subst (λ o. IsStateOf (fin.find name_cmp (state_key name) (fin.entries y)) (unwrap_or o unknown)) (sym (fin.get-from_entries nat_list_cmp_total states name))
            (agrees name (fin.entries y) each));
        is_epoch = epoch.is;
        keys = λ key value is. pool_key key value (h key value is);
      };
    }
