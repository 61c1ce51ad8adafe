-- A map's entries, and the list that is made of them: found, taken out and put.
use Rattle.std.proofs.Common.{◌≡◌, ℕ, ◌==◌, ◌<◌, Bool, cond, not, true, false, List, [], ◌∷◌, map, filter, Option, Some, None, find, refl, sym, ap, ap₂, subst, ◌∙◌, arith, eq-eqb, ne_eqb, option_map, Ordering, Less, Equal, Greater, nat_cmp, is_eq}
use Rattle.std.specs.BTreeMap.{insert_entry, is_at}
use Rattle.std.specs.Cmp.{IsTotalOrder, eq_by_cmp_equiv}
use Rattle.std.specs.List.{AllByRecursion, IsDistinct}
use Rattle.std.specs.List.Sorted.{IsStrictlySortedBy}
use Rattle.std.specs.Map.{keys_of, lookup, remove_entry}
use Rattle.std.specs.Ordering.{MatchOrdering, eq_by_cmp, match_ordering}
use Rattle.std.proofs.lemmas.Cmp.{ranked}
use Rattle.std.proofs.lemmas.Map.{NonePasses}
use Rattle.std.proofs.lemmas.Map.Entries.{none_past_head}
use Rattle.std.proofs.lemmas.Map.Keys.{IsDistinct-from_sorted, IsDistinct-tail}
use Rattle.tier_traffic.specs.Places.{placed}

-- a number compares to its equal alone
pub nat_test : (q k : ℕ) → is_eq (nat_cmp q k) ≡ (k == q)
nat_test q k = by (nat_cmp q k) (ranked q k (nat_cmp q k) refl)
  where
    by : (r : Ordering) → MatchOrdering r (q < k) (q ≡ k) (k < q) → is_eq r ≡ (k == q)
    by Less low = sym (ne_eqb k q (λ e. absurd (omega (arith, low, e))))
    by Equal same = sym (eq-eqb k q (sym same))
    by Greater high = sym (ne_eqb k q (λ e. absurd (omega (arith, high, e))))

-- what a map's key k with its value is in the list, and how its key is read there
module _ {K V X : Type 0} (see : K × V → X) (key : X → K) where
  -- each element has its entry's key
  abbrev pub AreKeyed : List (K × V) → Type 0
  AreKeyed es = AllByRecursion (λ e. key (see e) ≡ e.0) es

  module _ (test at : K → Bool) (same : (k : K) → at k ≡ test k) where
    here : (e : K × V) → key (see e) ≡ e.0 → test (key (see e)) ≡ at e.0
    here e is = ap test is ∙ sym (same e.0)

    -- what is found in the list is what the map has
    pub found : (out : X → V) → ((e : K × V) → out (see e) ≡ e.1) → (es : List (K × V)) → AreKeyed es
        → option_map out (find (λ x. test (key x)) (map see es)) ≡ lookup at es
    found out told [] h = refl
    found out told (e ∷ es) h =
        ap (λ b. option_map out (cond b (Some (see e)) (find (λ x. test (key x)) (map see es)))) (here e h.0)
        ∙ elim (at e.0) as (λ b. option_map out (cond b (Some (see e)) (find (λ x. test (key x)) (map see es))) ≡ cond b (Some e.1) (lookup at es)) [
          | true ↦ ap (λ (v : V). Some v) (told e)
          | false ↦ found out told es h.1
        ]

    -- where no key passes, nothing is taken out
    none_taken : (es : List (K × V)) → AreKeyed es → NonePasses at es → filter (λ x. not (test (key x))) (map see es) ≡ map see es
    none_taken [] h none = refl
    none_taken (e ∷ es) h none =
        ap (λ b. cond (not b) (see e ∷ filter (λ x. not (test (key x))) (map see es)) (filter (λ x. not (test (key x))) (map see es))) (here e h.0 ∙ none.0)
        ∙ ap (λ xs. see e ∷ xs) (none_taken es h.1 none.1)

  module _ {R : K → K → Ordering} (o : IsTotalOrder R) (q : K) (test : K → Bool) (same : (k : K) → is_eq (R q k) ≡ test k) where
    -- what is taken out of the map is taken out of the list
    pub taken : (es : List (K × V)) → IsDistinct (eq_by_cmp R) (keys_of es) → AreKeyed es → map see (remove_entry (is_at (R q)) es) ≡ filter (λ x. not (test (key x))) (map see es)
    taken [] d h = refl
    taken (e ∷ es) d h =
        elim (is_at (R q) e.0) as (λ b. is_at (R q) e.0 ≡ b → map see (cond b es (e ∷ remove_entry (is_at (R q)) es)) ≡ cond (not b) (see e ∷ filter (λ x. not (test (key x))) (map see es)) (filter (λ x. not (test (key x))) (map see es))) [
          | true ↦ λ t. sym (none_taken test (is_at (R q)) same es h.1 (none_past_head (eq_by_cmp_equiv o) q e es d t))
          | false ↦ λ _. ap (λ xs. see e ∷ xs) (taken es (IsDistinct-tail (eq_by_cmp R) e.0 (keys_of es) d) h.1)
        ] refl
        ∙ ap (λ b. cond (not b) (see e ∷ filter (λ x. not (test (key x))) (map see es)) (filter (λ x. not (test (key x))) (map see es))) (sym (here test (is_at (R q)) same e h.0))

    -- the same of a map in order
    pub taken_out : (es : List (K × V)) → IsStrictlySortedBy R (keys_of es) → AreKeyed es → map see (remove_entry (is_at (R q)) es) ≡ filter (λ x. not (test (key x))) (map see es)
    taken_out es s h = taken es (IsDistinct-from_sorted R (keys_of es) s) h

  module _ (R : K → K → Ordering) (tied : (a b : K) → R a b ≡ Equal → a ≡ b) (k : K) (v : V) (is : key (see (k, v)) ≡ k) where
    -- what is put into the map has its place in the list
    pub put_in : (es : List (K × V)) → AreKeyed es → map see (insert_entry R es k v) ≡ placed (λ x y. R (key x) (key y)) (see (k, v)) (map see es)
    put_in [] h = refl
    put_in (e ∷ es) h =
        elim (R k e.0) as (λ r. R k e.0 ≡ r → map see (match_ordering r ((k, v) ∷ e ∷ es) ((e.0, v) ∷ es) (e ∷ insert_entry R es k v))
        ≡ match_ordering r (see (k, v) ∷ see e ∷ map see es) (see (k, v) ∷ map see es) (see e ∷ placed (λ x y. R (key x) (key y)) (see (k, v)) (map see es))) [
          | Less ↦ λ _. refl
          | Equal ↦ λ t. ap (λ (j : K). see (j, v) ∷ map see es) (sym (tied k e.0 t))
          | Greater ↦ λ _. ap (λ xs. see e ∷ xs) (put_in es h.1)
        ] refl
        ∙ ap (λ r. match_ordering r (see (k, v) ∷ see e ∷ map see es) (see (k, v) ∷ map see es) (see e ∷ placed (λ x y. R (key x) (key y)) (see (k, v)) (map see es)))
        (ap₂ R (sym is) (sym h.0))

    pub keyed_put : (es : List (K × V)) → AreKeyed es → AreKeyed (insert_entry R es k v)
    keyed_put [] h = (is, tt)
    keyed_put (e ∷ es) h = elim (R k e.0) as (λ r. R k e.0 ≡ r → AreKeyed (match_ordering r ((k, v) ∷ e ∷ es) ((e.0, v) ∷ es) (e ∷ insert_entry R es k v))) [
      | Less ↦ λ _. (is, h)
      | Equal ↦ λ t. (subst (λ (j : K). key (see (j, v)) ≡ j) (tied k e.0 t) is, h.1)
      | Greater ↦ λ _. (h.0, keyed_put es h.1)
    ] refl

  pub keyed_taken : (at : K → Bool) (es : List (K × V)) → AreKeyed es → AreKeyed (remove_entry at es)
  keyed_taken at [] h = tt
  keyed_taken at (e ∷ es) h = elim (at e.0) as (λ b. AreKeyed (cond b es (e ∷ remove_entry at es))) [
    | true ↦ h.1
    | false ↦ (h.0, keyed_taken at es h.1)
  ]

  -- elements that are made of their entries have their keys
  pub all_keyed : ((e : K × V) → key (see e) ≡ e.0) → (es : List (K × V)) → AreKeyed es
  all_keyed is [] = tt
  all_keyed is (e ∷ es) = (is e, all_keyed is es)

-- numbers that compare equal are the same
pub tied_numbers : (a b : ℕ) → nat_cmp a b ≡ Equal → a ≡ b
tied_numbers a b e = subst (λ r. MatchOrdering r (a < b) (a ≡ b) (b < a)) e (ranked a b (nat_cmp a b) refl)

option_same : {V : Type 0} (o : Option V) → option_map (λ v. v) o ≡ o
option_same None = refl
option_same (Some v) = refl

-- what is found among values that have their keys
pub found_whole : {K V : Type 0} (key : V → K) (test at : K → Bool) → ((k : K) → at k ≡ test k) → (es : List (K × V)) → AllByRecursion (λ e. key e.1 ≡ e.0) es
    → find (λ v. test (key v)) (map (λ e. e.1) es) ≡ lookup at es
found_whole key test at same es h = sym (option_same _) ∙ found (λ e. e.1) key test at same (λ v. v) (λ e. refl) es h
