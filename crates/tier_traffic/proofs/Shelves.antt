-- Places under falling numbers, each with a value, and one more for the next value.
use Rattle.std.proofs.Common.{◌≡◌, ◌≢◌, ℕ, ◌==◌, ◌+◌, ◌<◌, ◌≤◌, Bool, cond, not, true, false, true≢false, List, [], ◌∷◌, filter, Option, Some, None, IsSome, is_some, refl, sym, ap, subst, ◌∙◌, arith, eq-eqb, ne_eqb, eqb-true, Ordering, Less, Equal, Greater, nat_cmp, is_eq}
use Rattle.std.specs.BTreeMap.{insert_entry, is_at}
use Rattle.std.specs.Map.{lookup, remove_entry}
use Rattle.std.specs.Option.{option_flatten}
use Rattle.std.specs.Ordering.{MatchOrdering, match_ordering}
use Rattle.std.specs.declared.cmp.Reverse.{Reverse}
use Rattle.std.proofs.lemmas.Cmp.{ranked}
use Rattle.tier_traffic.specs.Numbered.{IsFull, IsShelf, Shelf, held_in, is_under, with_value}

-- the order of places: the higher number comes first
abbrev falling : Reverse ℕ → Reverse ℕ → Ordering
falling x y = nat_cmp y.0 x.0

low : (a b : ℕ) → a < b → nat_cmp a b ≡ Less
low a b l = by (nat_cmp a b) (ranked a b (nat_cmp a b) refl)
  where
    by : (r : Ordering) → MatchOrdering r (a < b) (a ≡ b) (b < a) → r ≡ Less
    by Less h = refl
    by Equal h = absurd (omega (arith, h, l))
    by Greater h = absurd (omega (arith, h, l))

level : (a b : ℕ) → a ≡ b → nat_cmp a b ≡ Equal
level a b e = by (nat_cmp a b) (ranked a b (nat_cmp a b) refl)
  where
    by : (r : Ordering) → MatchOrdering r (a < b) (a ≡ b) (b < a) → r ≡ Equal
    by Less h = absurd (omega (arith, h, e))
    by Equal h = refl
    by Greater h = absurd (omega (arith, h, e))

under_test : (n : ℕ) (k : Reverse ℕ) → is_under n k ≡ (k.0 == n)
under_test n k = by (nat_cmp k.0 n) (ranked k.0 n (nat_cmp k.0 n) refl)
  where
    by : (r : Ordering) → MatchOrdering r (k.0 < n) (k.0 ≡ n) (n < k.0) → is_eq r ≡ (k.0 == n)
    by Less l = sym (ne_eqb k.0 n (λ e. absurd (omega (arith, l, e))))
    by Equal e = sym (eq-eqb k.0 n e)
    by Greater l = sym (ne_eqb k.0 n (λ e. absurd (omega (arith, l, e))))

other : (next k n : ℕ) → next ≤ n → k < next → (k == n) ≡ false
other next k n l h = ne_eqb k n (λ s. absurd (omega (arith, l, h, s)))

module _ {V : Type 0} where
  -- numbers that are below one are below a higher one
  weaker : (n m : ℕ) (es : Shelf V) → n ≤ m → IsFull n es → IsFull m es
  weaker n m [] l h = tt
  weaker n m (e ∷ es) l h = (omega (arith, l, h.0), h.1, h.2)

  -- the value of a number, and all others
  abbrev at : ℕ → List (ℕ × V) → Option V
  at n held = lookup (λ k. k == n) held

  abbrev without : ℕ → List (ℕ × V) → List (ℕ × V)
  without n held = filter (λ e. not (e.0 == n)) held

  finds_here : (k n : ℕ) (held : List (ℕ × V)) (o : Option V) → (k == n) ≡ true → IsSome o → at n (with_value k o held) ≡ o
  finds_here k n held None t some = absurd (true≢false (sym some))
  finds_here k n held (Some v) t some = ap (λ b. cond b (Some v) (at n held)) t

  finds_later : (k n : ℕ) (held : List (ℕ × V)) (o : Option V) → (k == n) ≡ false → at n (with_value k o held) ≡ at n held
  finds_later k n held None f = refl
  finds_later k n held (Some v) f = ap (λ b. cond b (Some v) (at n held)) f

  drops : (k n : ℕ) (held : List (ℕ × V)) (o : Option V) → (k == n) ≡ true → without n (with_value k o held) ≡ without n held
  drops k n held None t = refl
  drops k n held (Some v) t = ap (λ b. cond (not b) ((k, v) ∷ without n held) (without n held)) t

  leaves : (k n : ℕ) (held : List (ℕ × V)) (o : Option V) → (k == n) ≡ false → without n (with_value k o held) ≡ with_value k o (without n held)
  leaves k n held None f = refl
  leaves k n held (Some v) f = ap (λ b. cond (not b) ((k, v) ∷ without n held) (without n held)) f

  -- a place without a value
  unseen : (e : Reverse ℕ × Option V) (es : Shelf V) → e.1 ≡ None → held_in (e ∷ es) ≡ held_in es
  unseen e es none = ap (λ o. with_value e.0.0 o (held_in es)) none

  -- ---- what is found

  none_above : (next n : ℕ) (es : Shelf V) → next ≤ n → IsFull next es → at n (held_in es) ≡ None
  none_above next n [] l h = refl
  none_above next n (e ∷ es) l h = finds_later e.0.0 n (held_in es) e.1 (other next e.0.0 n l h.0) ∙ none_above e.0.0 n es (omega (arith, l, h.0)) h.2

  found_full : (next n : ℕ) (es : Shelf V) → IsFull next es → option_flatten (lookup (is_under n) es) ≡ at n (held_in es)
  found_full next n [] h = refl
  found_full next n (e ∷ es) h =
      ap (λ b. option_flatten (cond b (Some e.1) (lookup (is_under n) es))) (under_test n e.0)
      ∙ elim (e.0.0 == n) as (λ b. (e.0.0 == n) ≡ b → option_flatten (cond b (Some e.1) (lookup (is_under n) es)) ≡ at n (with_value e.0.0 e.1 (held_in es))) [
        | true ↦ λ t. sym (finds_here e.0.0 n (held_in es) e.1 t h.1)
        | false ↦ λ f. found_full e.0.0 n es h.2 ∙ sym (finds_later e.0.0 n (held_in es) e.1 f)
      ] refl

  -- the value of a number
  pub found_on : (ready : Bool) (next n : ℕ) (es : Shelf V) → IsShelf ready next es → option_flatten (lookup (is_under n) es) ≡ at n (held_in es)
  found_on false next n es h = found_full next n es h
  found_on true next n [] h = absurd h
  found_on true next n (e ∷ es) h =
      ap (λ b. option_flatten (cond b (Some e.1) (lookup (is_under n) es))) (under_test n e.0)
      ∙ elim (e.0.0 == n) as (λ b. (e.0.0 == n) ≡ b → option_flatten (cond b (Some e.1) (lookup (is_under n) es)) ≡ at n (held_in es)) [
        | true ↦ λ t. h.1 ∙ sym (none_above next n es (omega (arith, eqb-true e.0.0 n t, h.0)) h.2)
        | false ↦ λ _. found_full next n es h.2
      ] refl
      ∙ ap (at n) (sym (unseen e es h.1))

  -- ---- a place for the next value

  -- it comes first
  comes_first : (next : ℕ) (o : Option V) (k : Reverse ℕ) (es : Shelf V) → k.0 ≡ next → IsFull next es → insert_entry falling es k o ≡ (k, o) ∷ es
  comes_first next o k [] is h = refl
  comes_first next o k (e ∷ es) is h = ap (λ r. match_ordering r ((k, o) ∷ e ∷ es) ((e.0, o) ∷ es) (e ∷ insert_entry falling es k o)) (low e.0.0 k.0 (omega (arith, is, h.0)))

  pub place_seen : (next : ℕ) (k : Reverse ℕ) (es : Shelf V) → k.0 ≡ next → IsShelf false next es → held_in (insert_entry falling es k None) ≡ held_in es
  place_seen next k es is h = ap held_in (comes_first next None k es is h)

  pub place_shelf : (next : ℕ) (k : Reverse ℕ) (es : Shelf V) → k.0 ≡ next → IsShelf false next es → IsShelf true next (insert_entry falling es k None)
  place_shelf next k es is h = subst (IsShelf true next) (sym (comes_first next None k es is h)) (is, refl, h)

  -- ---- a value is put there

  takes_place : (next : ℕ) (v : V) (k : Reverse ℕ) (e : Reverse ℕ × Option V) (es : Shelf V) → k.0 ≡ next → IsShelf true next (e ∷ es) → insert_entry falling (e ∷ es) k (Some v) ≡ (e.0, Some v) ∷ es
  takes_place next v k e es is h = ap (λ r. match_ordering r ((k, Some v) ∷ e ∷ es) ((e.0, Some v) ∷ es) (e ∷ insert_entry falling es k (Some v))) (level e.0.0 k.0 (omega (arith, is, h.0)))

  pub put_seen : (next : ℕ) (v : V) (k : Reverse ℕ) (es : Shelf V) → k.0 ≡ next → IsShelf true next es → held_in (insert_entry falling es k (Some v)) ≡ (next, v) ∷ held_in es
  put_seen next v k [] is h = absurd h
  put_seen next v k (e ∷ es) is h =
      ap held_in (takes_place next v k e es is h)
      ∙ ap (λ (n : ℕ). (n, v) ∷ held_in es) h.0
      ∙ ap (λ held. (next, v) ∷ held) (sym (unseen e es h.1))

  pub put_shelf : (next : ℕ) (v : V) (k : Reverse ℕ) (es : Shelf V) → k.0 ≡ next → IsShelf true next es → IsShelf false (next + 1) (insert_entry falling es k (Some v))
  put_shelf next v k [] is h = absurd h
  put_shelf next v k (e ∷ es) is h = subst (IsFull (next + 1)) (sym (takes_place next v k e es is h))
      (omega (arith, h.0), refl, weaker next e.0.0 es (omega (arith, h.0)) h.2)

  -- the place is there
  pub place_there : (next : ℕ) (k : Reverse ℕ) (es : Shelf V) → k.0 ≡ next → IsShelf true next es → lookup (is_at (falling k)) es ≢ None
  place_there next k [] is h none = absurd h
  place_there next k (e ∷ es) is h none =
      true≢false (ap is_some (sym (ap (λ r. cond (is_eq r) (Some e.1) (lookup (is_at (falling k)) es)) (level e.0.0 k.0 (omega (arith, is, h.0)))) ∙ none))

  -- ---- a value is taken out

  none_out : (next n : ℕ) (es : Shelf V) → next ≤ n → IsFull next es → without n (held_in es) ≡ held_in es
  none_out next n [] l h = refl
  none_out next n (e ∷ es) l h =
      leaves e.0.0 n (held_in es) e.1 (other next e.0.0 n l h.0)
      ∙ ap (with_value e.0.0 e.1) (none_out e.0.0 n es (omega (arith, l, h.0)) h.2)

  -- no value has the next number, or a higher one
  pub none_there : (ready : Bool) (next n : ℕ) (es : Shelf V) → next ≤ n → IsShelf ready next es → without n (held_in es) ≡ held_in es
  none_there false next n es l h = none_out next n es l h
  none_there true next n [] l h = refl
  none_there true next n (e ∷ es) l h = ap (without n) (unseen e es h.1) ∙ none_out next n es l h.2 ∙ sym (unseen e es h.1)

  out_full : (next n : ℕ) (es : Shelf V) → IsFull next es → held_in (remove_entry (is_under n) es) ≡ without n (held_in es)
  out_full next n [] h = refl
  out_full next n (e ∷ es) h =
      ap (λ b. held_in (cond b es (e ∷ remove_entry (is_under n) es))) (under_test n e.0)
      ∙ elim (e.0.0 == n) as (λ b. (e.0.0 == n) ≡ b → held_in (cond b es (e ∷ remove_entry (is_under n) es)) ≡ without n (held_in (e ∷ es))) [
        | true ↦ λ t. sym (drops e.0.0 n (held_in es) e.1 t ∙ none_out e.0.0 n es (omega (arith, eqb-true e.0.0 n t)) h.2)
        | false ↦ λ f. ap (with_value e.0.0 e.1) (out_full e.0.0 n es h.2) ∙ sym (leaves e.0.0 n (held_in es) e.1 f)
      ] refl

  full_out : (next n : ℕ) (es : Shelf V) → IsFull next es → IsFull next (remove_entry (is_under n) es)
  full_out next n [] h = tt
  full_out next n (e ∷ es) h = elim (is_under n e.0) as (λ b. IsFull next (cond b es (e ∷ remove_entry (is_under n) es))) [
    | true ↦ weaker e.0.0 next es (omega (arith, h.0)) h.2
    | false ↦ (h.0, h.1, full_out e.0.0 n es h.2)
  ]

  first_stays : (next n : ℕ) (e : Reverse ℕ × Option V) (es : Shelf V) → n < next → e.0.0 ≡ next → remove_entry (is_under n) (e ∷ es) ≡ e ∷ remove_entry (is_under n) es
  first_stays next n e es l is =
      ap (λ b. cond b es (e ∷ remove_entry (is_under n) es)) (under_test n e.0 ∙ ne_eqb e.0.0 n (λ s. absurd (omega (arith, l, is, s))))

  -- the value of a number is taken out
  pub out_seen : (ready : Bool) (next n : ℕ) (es : Shelf V) → n < next → IsShelf ready next es → held_in (remove_entry (is_under n) es) ≡ without n (held_in es)
  out_seen false next n es l h = out_full next n es h
  out_seen true next n [] l h = refl
  out_seen true next n (e ∷ es) l h =
      ap held_in (first_stays next n e es l h.0) ∙ unseen e (remove_entry (is_under n) es) h.1
      ∙ out_full next n es h.2 ∙ ap (without n) (sym (unseen e es h.1))

  pub out_shelf : (ready : Bool) (next n : ℕ) (es : Shelf V) → n < next → IsShelf ready next es → IsShelf ready next (remove_entry (is_under n) es)
  out_shelf false next n es l h = full_out next n es h
  out_shelf true next n [] l h = absurd h
  out_shelf true next n (e ∷ es) l h = subst (IsShelf true next) (sym (first_stays next n e es l h.0)) (h.0, h.1, full_out next n es h.2)
