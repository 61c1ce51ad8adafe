-- Keys that rise, and those of them above a key.
use Rattle.std.proofs.Common.{◌≡◌, inl, inr, ℕ, zero, suc, T, Bool, true, false, cond, ◌&&◌, List, [], ◌∷◌, length, map, take, Option, Some, None, refl, sym, ap, subst, ◌∙◌}
use Rattle.std.specs.Prelude.{filter}
use Rattle.std.specs.FinMap as fin
use Rattle.std.specs.List.{AllByRecursion}
use Rattle.std.specs.Ordering.{eq_by_cmp, is_eq, is_lt, ordering_reverse}
use Rattle.std.specs.Cmp.{Equal-is, tied_itself}
use Rattle.std.specs.Cmp.Lexicographic.{nat_list_cmp_total}
use Rattle.std.specs.declared.cmp.Ordering.{Ordering}
use Rattle.std.specs.declared.cmp.Ordering.TheVariants.{Less, Equal, Greater}
use Rattle.obj_model.specs.Names.{name_cmp}
pub use Rattle.obj_model.proofs.Rising.{Over, Rise, above_more, is_lower, not_back, not_itself, rise_of}
use Rattle.obj_model.specs.Tables.{is_above}
use Rattle.tier_types.specs.Flights.{IsIn}

abbrev pub Key : Type 0
Key = List ℕ

-- ---- the order of keys

pub lower : (a b : Key) → name_cmp a b ≡ Less → is_above (Some a) b ≡ true
lower a b h = ap is_lt h

-- ---- keys that rise

module _ {V : Type 0} where
  -- a key that has a value is one of the keys
  key_in : (b : Bool) (k : Key) (e : Key × V) (es : List (Key × V)) (v : V) → eq_by_cmp name_cmp k e.0 ≡ b
      → (fin.find name_cmp k es ≡ Some v → IsIn k (map (λ e. e.0) es)) → cond b (Some e.1) (fin.find name_cmp k es) ≡ Some v
      → IsIn k (map (λ e. e.0) (e ∷ es))
  key_in true k e es v tied rest h = inl (fin.slice_cmp-IsAntisymmetric fin.nat_cmp-IsAntisymmetric k e.0 ((Equal-is (name_cmp k e.0)).0 tied))
  key_in false k e es v tied rest h = inr (rest h)

  pub in_keys : (k : Key) (es : List (Key × V)) (v : V) → fin.find name_cmp k es ≡ Some v → IsIn k (map (λ e. e.0) es)
  in_keys k [] v h = absurd (cc)
  in_keys k (e ∷ es) v h = key_in (eq_by_cmp name_cmp k e.0) k e es v refl (in_keys k es v) h

  -- each of the keys has a value
  abbrev HasOne : Key → List (Key × V) → Type 0
  HasOne k es = (v : V) × (fin.find name_cmp k es ≡ Some v)

  one_or : (b : Bool) (k : Key) (e : Key × V) (es : List (Key × V)) → eq_by_cmp name_cmp k e.0 ≡ b → (b ≡ false → HasOne k es)
      → (v : V) × (cond b (Some e.1) (fin.find name_cmp k es) ≡ Some v)
  one_or true k e es tied rest = (e.1, refl)
  one_or false k e es tied rest = rest refl

  tied_key : (k : Key) (e : Key × V) → k ≡ e.0 → eq_by_cmp name_cmp k e.0 ≡ true
  tied_key k e same = ap (λ o. is_eq o) (ap (name_cmp k) (sym same) ∙ tied_itself nat_list_cmp_total k)

  pub has_value : (k : Key) (es : List (Key × V)) → IsIn k (map (λ e. e.0) es) → HasOne k es
  has_value k [] h = absurd h
  has_value k (e ∷ es) (inl same) = one_or (eq_by_cmp name_cmp k e.0) k e es refl (λ other. absurd (let same_one = tied_key k e same in cc))
  has_value k (e ∷ es) (inr there) = one_or (eq_by_cmp name_cmp k e.0) k e es refl (λ other. has_value k es there)

-- ---- those above a key

abbrev pub kept : Option Key → List Key → List Key
kept p ks = filter (is_above p) ks

by_test : (P : List Key → Type 0) (p : Option Key) (k : Key) (ks : List Key) (b : Bool) → is_above p k ≡ b
    → (is_above p k ≡ true → P (k ∷ kept p ks)) → (is_above p k ≡ false → P (kept p ks)) → P (kept p (k ∷ ks))
by_test P p k ks true h in_it out = rw h (in_it h)
by_test P p k ks false h in_it out = rw h (out h)

pub kept_in : (p : Option Key) (a : Key) (ks : List Key) → IsIn a ks → is_above p a ≡ true → IsIn a (kept p ks)
kept_in p a [] h above = absurd h
kept_in p a (k ∷ ks) (inl same) above =
    by_test (IsIn a) p k ks (is_above p k) refl (λ above_it. inl same) (λ below. absurd (let up : is_above p k ≡ true = subst (λ x. is_above p x ≡ true) same above in cc))
kept_in p a (k ∷ ks) (inr there) above =
    by_test (IsIn a) p k ks (is_above p k) refl (λ above_it. inr (kept_in p a ks there above)) (λ below. kept_in p a ks there above)

pub in_kept : (p : Option Key) (a : Key) (ks : List Key) → IsIn a (kept p ks) → IsIn a ks × (is_above p a ≡ true)
in_kept p a [] = λ h. absurd h
in_kept p a (k ∷ ks) =
    by_test (λ l. IsIn a l → IsIn a (k ∷ ks) × (is_above p a ≡ true)) p k ks (is_above p k) refl
    (λ above_it h. elim h [
      | inl same ↦ (inl same, subst (λ x. is_above p x ≡ true) (sym same) above_it)
      | inr there ↦ (inr (in_kept p a ks there).0, (in_kept p a ks there).1)
    ])
    (λ below h. (inr (in_kept p a ks h).0, (in_kept p a ks h).1))

pub over_in : (k a : Key) (ks : List Key) → Over k ks → IsIn a ks → name_cmp k a ≡ Less
over_in k a [] over h = absurd h
over_in k a (q ∷ ks) over (inl same) = subst (λ x. name_cmp k x ≡ Less) (sym same) over.0
over_in k a (q ∷ ks) over (inr there) = over_in k a ks over.1 there

kept_over : (p : Option Key) (k : Key) (ks : List Key) → Over k ks → Over k (kept p ks)
kept_over p k [] over = tt
kept_over p k (q ∷ ks) over =
    by_test (Over k) p q ks (is_above p q) refl (λ h. (over.0, kept_over p k ks over.1)) (λ h. kept_over p k ks over.1)

pub kept_rise : (p : Option Key) (ks : List Key) → Rise ks → Rise (kept p ks)
kept_rise p [] rise = tt
kept_rise p (k ∷ ks) rise =
    by_test Rise p k ks (is_above p k) refl (λ h. (kept_over p k ks rise.0, kept_rise p ks rise.1)) (λ h. kept_rise p ks rise.1)

all_kept : (p : Option Key) (k : Key) (ks : List Key) → is_above p k ≡ true → Over k ks → kept p ks ≡ ks
all_kept p k [] h over = refl
all_kept p k (q ∷ ks) h over = rw (above_more p k q h over.0) (ap (λ l. q ∷ l) (all_kept p k ks h over.1))

all_over : (k : Key) (ks : List Key) → Over k ks → kept (Some k) ks ≡ ks
all_over k [] over = refl
all_over k (q ∷ ks) over = rw over.0 (ap (λ l. q ∷ l) (all_over k ks over.1))

head_over : (k q : Key) (qs ks : List Key) → ks ≡ q ∷ qs → Over k ks → name_cmp k q ≡ Less
head_over k q qs ks h over = let all : Over k (q ∷ qs) = subst (Over k) h over in all.0

-- what is above the first of those that are above is the rest of them
pub above_first : (p : Option Key) (ks : List Key) (k : Key) (rest : List Key) → Rise ks → kept p ks ≡ k ∷ rest → kept (Some k) ks ≡ rest
above_first p [] k rest rise = λ h. absurd (cc)
above_first p (x ∷ xs) k rest rise =
    by_test (λ l. l ≡ k ∷ rest → kept (Some k) (x ∷ xs) ≡ rest) p x xs (is_above p x) refl
    (λ g here.
    let same : x ≡ k = cc in
    let left : kept p xs ≡ rest = cc in
    subst (λ y. kept (Some y) (x ∷ xs) ≡ rest) same
    (rw (not_itself x) (all_over x xs rise.0 ∙ sym (all_kept p x xs g rise.0) ∙ left)))
    (λ g there.
    let low : name_cmp x k ≡ Less = head_over x k rest (kept p xs) there (kept_over p x xs rise.0) in
    rw (not_back x k low) (above_first p xs k rest rise.1 there))

-- ---- the first of a list

-- so many of the first are as many as they are
pub take_as_many : (n : ℕ) (ks : List Key) → take n ks ≡ take (length (take n ks)) ks
take_as_many zero ks = refl
take_as_many (suc n) [] = refl
take_as_many (suc n) (k ∷ ks) = ap (λ l. k ∷ l) (take_as_many n ks)

pub none_taken : (n : ℕ) (ks : List Key) → take (suc n) ks ≡ [] → ks ≡ []
none_taken n [] h = refl
none_taken n (k ∷ ks) h = absurd (cc)

-- the first of a list are a key and others: so is the list
pub head_taken : (k : Key) (rest ks : List Key) → k ∷ rest ≡ take (suc (length rest)) ks
    → (more : List Key) × (ks ≡ k ∷ more) × (rest ≡ take (length rest) more)
head_taken k rest [] h = absurd (cc)
head_taken k rest (q ∷ qs) h =
    let same : k ≡ q = cc in
    let left : rest ≡ take (length rest) qs = cc in
    (qs, ap (λ x. x ∷ qs) (sym same), left)
