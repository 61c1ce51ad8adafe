-- How many elements pass a test, where their list changes.
use Rattle.std.proofs.Common.{◌≡◌, ℕ, zero, suc, ◌+◌, ◌-◌, ◌<◌, Bool, true, false, cond, not, ◌&&◌, ◌==◌, is_some, List, [], ◌∷◌, ◌++◌, length, set, get_or, map, refl, sym, ap, ◌∙◌, arith}
use Rattle.std.specs.List.{count_by}
use mir.Val.{bool_byte}
use Rattle.std.proofs.lemmas.List.Sums.{sum_by-append, sum_by-cons}
use Rattle.tier_view.specs.declared.parts.Entry.{Entry}
use Rattle.tier_view.specs.Changes.{adopted_in}
use Rattle.tier_calls.specs.Going.{going_in, is_going}

module _ {X : Type 0} (p : X → Bool) where
  abbrev weight : X → ℕ
  weight x = cond (p x) 1 0

  -- one element more
  pub count_push : (xs : List X) (x : X) → count_by p (xs ++ x ∷ []) ≡ count_by p xs + cond (p x) 1 0
  count_push xs x = omega (arith, sum_by-append weight xs (x ∷ []), sum_by-cons weight x [])

  -- one element gives place to another
  pub count_set : (xs : List X) (i : ℕ) (d y : X) → i < length xs
      → count_by p (set xs i y) + cond (p (get_or xs i d)) 1 0 ≡ count_by p xs + cond (p y) 1 0
  count_set [] i d y there = absurd (omega (arith, there))
  count_set (x ∷ xs) zero d y there = omega (arith, sum_by-cons weight y xs, sum_by-cons weight x xs)
  count_set (x ∷ xs) (suc i) d y there =
      omega (arith, sum_by-cons weight x (set xs i y), sum_by-cons weight x xs, count_set xs i d y (omega (arith, there)))

  -- elements that pass as they did before
  pub count_map : (f : X → X) → ((x : X) → p (f x) ≡ p x) → (xs : List X) → count_by p (map f xs) ≡ count_by p xs
  count_map f same [] = refl
  count_map f same (x ∷ xs) =
      sum_by-cons weight (f x) (map f xs)
      ∙ ap (λ n. cond (p (f x)) 1 0 + n) (count_map f same xs)
      ∙ ap (λ b. cond b 1 0 + count_by p xs) (same x)
      ∙ sym (sum_by-cons weight x xs)

-- ---- calls

abbrev one_if : Bool → ℕ
one_if b = cond b 1 0

as_one : {a b : Bool} → a ≡ b → one_if a ≡ one_if b
as_one e = ap one_if e

byte : (b : Bool) → bool_byte b ≡ one_if b
byte true = refl
byte false = refl

never : (b : Bool) → (b && false) ≡ false
never true = refl
never false = refl

always : (b : Bool) → (b && true) ≡ b
always true = refl
always false = refl

-- a call that was read at its place has ended
pub going_ended : (es : List Entry) (i : ℕ) (e x : Entry) (was : Bool) → i < length es → e ≡ get_or es i e → was ≡ is_going e
    → going_in es ≡ going_in (set es i (record x { ended = true })) + cond was 1 0
going_ended es i e x was there read is =
    omega (
      arith,
      count_set is_going es i e (record x { ended = true }) there,
      as_one (never (is_some x.line)),
      as_one (ap is_going read),
      as_one is,
    )

-- a call has come, with a line or without one
pub going_entered : (es : List Entry) (e : Entry) → e.ended ≡ false → going_in (es ++ e ∷ []) ≡ going_in es + cond (is_some e.line) 1 0
going_entered es e fresh =
    count_push is_going es e
    ∙ ap (λ b. going_in es + cond (is_some e.line && not b) 1 0) fresh
    ∙ ap (λ b. going_in es + cond b 1 0) (always (is_some e.line))

-- a call has taken over a write request
pub going_adopted : (call : ℕ) (es : List Entry) → going_in (adopted_in call es) ≡ going_in es
going_adopted call es = count_map is_going (λ e. cond (e.number == call) (record e { adopted = true }) e)
    (λ e. elim (e.number == call) as (λ b. is_going (cond b (record e { adopted = true }) e) ≡ is_going e) [ true ↦ refl | false ↦ refl ]) es

-- the count goes on where a call ends, and where one comes
pub fewer : (was : Bool) (going before after : ℕ) → going ≡ before → before ≡ after + cond was 1 0 → going - bool_byte was ≡ after
fewer was going before after is ends = omega (arith, is, ends, byte was)

pub more : (es : List Entry) (e : Entry) (after : List Entry) (going : ℕ) (lined : Bool) → going ≡ going_in es → e.ended ≡ false → lined ≡ is_some e.line
    → after ≡ es ++ e ∷ [] → going + bool_byte lined ≡ going_in after
more es e after going lined is fresh line comes =
    omega (arith, is, byte lined, as_one line, ap going_in comes, going_entered es e fresh)
