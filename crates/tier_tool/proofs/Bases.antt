-- A pool's map and the plain store that it stands for: what a name has, and what a put changes.
use Rattle.std.proofs.Common.{◌≡◌, ◌↔◌, ℕ, Bool, true, false, cond, List, [], ◌∷◌, Option, Some}
use Rattle.std.proofs.Common.{None, unwrap_or, refl, sym, ap, subst, ◌∙◌, arith}
use Rattle.std.specs.Cmp.{Equal-is}
use Rattle.std.specs.Ordering.{eq_by_cmp}
use Rattle.std.specs.Cmp.Lexicographic.{nat_list_cmp_total}
use Rattle.std.specs.FinMap as fin
use Rattle.std.proofs.lemmas.List.Elements.{All-nil, All-cons}
use Rattle.obj_model.specs.Names.{name_cmp, name_fault}
use Rattle.obj_model.specs.States.{unknown}
use Rattle.obj_model.specs.Changes.{IsChange, IsTxn}
use Rattle.obj_model.specs.declared.change.Change.TheVariants.{Put}
use Rattle.obj_model.specs.declared.state.NameState.{NameState}
use Rattle.obj_ops.specs.Stores.{Store, state_of}
use Rattle.rec_codec.specs.Spelling.{SpellsState}
use Rattle.rec_codec.proofs.BlockLaws.{name_short}
use Rattle.rec_codec.proofs.Whole.{states_apart}
use Rattle.store_face.specs.Tables.{Table}
use Rattle.tier_tool.specs.Costs.{state_key}
use Rattle.tier_tool.specs.Bases.{IsSpelled, StandsFor, IsUnreadable}
use Rattle.tier_tool.specs.Steps.Serving.{SameUnreadable}
use Rattle.tier_tool.specs.Steps.Pools.{IsStateOf, Has, IsWith}
use Rattle.rec_codec.proofs.Lengths.{state_short}

some_is : (a b : List ℕ) → Some a ≡ Some b → a ≡ b
some_is a b e = cc

none_is_no_value : (a : List ℕ) → None ≡ Some a → ⊥
none_is_no_value a e = grind arith

-- ---- what a map has for a name

-- bytes spell one state
one_state : (bytes : List ℕ) (s t : NameState) → SpellsState bytes s → SpellsState bytes t → s ≡ t
one_state bytes s t h k = (states_apart s t bytes bytes [] [] h k refl).0

same_state : (o : Option (List ℕ)) (x : Option NameState) (s : NameState) → IsStateOf o s → IsSpelled o x → s ≡ unwrap_or x unknown
same_state None None s h k = h
same_state None (Some t) s h k = absurd k
same_state (Some bytes) None s h k = absurd (k s h)
same_state (Some bytes) (Some t) s h k = one_state bytes s t h k

-- the state that the map has is that of the store
pub has_state : (t : Table) (store : Store) (name : List ℕ) (s : NameState) → Has name s t → StandsFor t store → s ≡ state_of store name
has_state t store name s h stands = same_state (fin.get t (state_key name)) (fin.get store name) s h (stands.each name)

readable_by : (o : Option (List ℕ)) (s : NameState) (bytes : List ℕ) → IsStateOf o s → o ≡ Some bytes → ((t : NameState) → ¬ SpellsState bytes t) → ⊥
readable_by None s bytes h e none = none_is_no_value bytes e
readable_by (Some b) s bytes h e none = none s (subst (λ (w : List ℕ). SpellsState w s) (some_is b bytes e) h)

-- a name whose state the map has is readable
pub has_readable : (t : Table) (name : List ℕ) (s : NameState) → Has name s t → ¬ IsUnreadable t name
has_readable t name s h = λ un. readable_by (fin.get t (state_key name)) s un.bytes h un.there un.none

-- ---- what a put changes

-- the value of a name behind a put
get_put : (t : Table) (name bytes q : List ℕ) → fin.get (fin.insert t (state_key name) bytes) (state_key q) ≡ cond (eq_by_cmp name_cmp q name) (Some bytes) (fin.get t (state_key q))
get_put t name bytes q = fin.get-insert nat_list_cmp_total t (state_key name) bytes (state_key q)

spelled_by : (b : Bool) (bytes : List ℕ) (s : NameState) (o : Option (List ℕ)) (x : Option NameState) → SpellsState bytes s → IsSpelled o x → IsSpelled (cond b (Some bytes) o) (cond b (Some s) x)
spelled_by true bytes s o x h k = h
spelled_by false bytes s o x h k = k

stands_put_as : (t : Table) (store : Store) (name bytes : List ℕ) (s : NameState) → StandsFor t store → SpellsState bytes s → StandsFor (fin.insert t (state_key name) bytes) (fin.insert store name s)
stands_put_as t store name bytes s stands h = record {
  each = λ q. rw (get_put t name bytes q) (rw (fin.get-insert nat_list_cmp_total store name s q)
      (spelled_by (eq_by_cmp name_cmp q name) bytes s (fin.get t (state_key q)) (fin.get store q) h (stands.each q)));
}

-- the map with a state for a name stands for the store with that state
pub stands_put : (t u : Table) (store : Store) (name : List ℕ) (s : NameState) → StandsFor t store → IsWith name s t u → StandsFor u (fin.insert store name s)
stands_put t u store name s stands h = subst (λ (w : Table). StandsFor w (fin.insert store name s)) (sym h.is) (stands_put_as t store name h.bytes s stands h.spells)

unreadable_by : (t u : Table) (name bytes q : List ℕ) (s : NameState) (b : Bool) → SpellsState bytes s → ¬ IsUnreadable t name → (b ≡ true → q ≡ name)
    → fin.get u (state_key q) ≡ cond b (Some bytes) (fin.get t (state_key q)) → IsUnreadable u q ↔ IsUnreadable t q
unreadable_by t u name bytes q s true h readable same e = (
  λ un. absurd (un.none s (subst (λ (w : List ℕ). SpellsState w s) (some_is bytes un.bytes (sym e ∙ un.there)) h)),
  λ un. absurd (readable (subst (λ (w : List ℕ). IsUnreadable t w) (same refl) un)),
)
unreadable_by t u name bytes q s false h readable same e =
    (λ un. record { bytes = un.bytes; there = sym e ∙ un.there; none = un.none }, λ un. record { bytes = un.bytes; there = e ∙ un.there; none = un.none })

-- a state put for a readable name leaves all names as readable as they are
pub unreadable_put : (t u : Table) (name : List ℕ) (s : NameState) → ¬ IsUnreadable t name → IsWith name s t u → SameUnreadable t u
unreadable_put t u name s readable h = λ q. unreadable_by t u name h.bytes q s (eq_by_cmp name_cmp q name) h.spells readable
    (λ e. fin.slice_cmp-IsAntisymmetric fin.nat_cmp-IsAntisymmetric q name ((Equal-is (name_cmp q name)).0 e))
    (ap (λ (w : Table). fin.get w (state_key q)) h.is ∙ get_put t name h.bytes q)

-- ---- the transaction

-- one put of a state is a lawful transaction
pub put_lawful : (name key value bytes : List ℕ) (s : NameState) → name_fault name ≡ None → key ≡ state_key name → value ≡ bytes → SpellsState bytes s → IsTxn (Put key value ∷ [])
put_lawful name key value bytes s named e f h = record {
  some = omega arith;
  few = omega arith;
  each = rw e (rw f (All-cons IsChange (Put (state_key name) bytes) [] ((omega arith, omega (arith, name_short name named)), state_short bytes s h) (All-nil IsChange)));
  apart = (tt, tt);
}
