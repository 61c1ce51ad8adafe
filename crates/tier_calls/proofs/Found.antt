-- Elements that are in turn, found and changed by their place.
use Rattle.std.proofs.Common.{◌≡◌, ℕ, zero, suc, ◌==◌, ◌+◌, ◌<◌, ◌≤◌, cond, true, false, inl, inr, List, [], ◌∷◌, ◌++◌, length, map, Some, None, refl, sym, ap, ◌∙◌, arith, eq-eqb, ne_eqb, set, get_or}
use Rattle.std.specs.List.{find}
use Rattle.tier_calls.specs.Turns.{AreInTurn, HasNoPlace}

module _ {X : Type 0} (number : X → ℕ) where
  -- no element has a lower number than the first
  pub found_below : (xs : List X) (n k : ℕ) → k < n → AreInTurn number n xs → find (λ x. number x == k) xs ≡ None
  found_below [] n k low h = refl
  found_below (x ∷ xs) n k low h =
      ap (λ b. cond b (Some x) (find (λ y. number y == k) xs)) (ne_eqb (number x) k (λ e. absurd (omega (arith, low, e, h.0))))
      ∙ found_below xs (suc n) k (omega (arith, low)) h.1

  -- the element of a number stands at its place
  found_at : (xs : List X) (n i k : ℕ) (x : X) → k ≡ n + i → i < length xs → x ≡ get_or xs i x → AreInTurn number n xs → Some x ≡ find (λ y. number y == k) xs
  found_at [] n i k x is there read h = absurd (omega (arith, there))
  found_at (y ∷ ys) n zero k x is there read h =
      ap (λ (z : X). Some z) read
      ∙ ap (λ b. cond b (Some y) (find (λ z. number z == k) ys)) (sym (eq-eqb (number y) k (h.0 ∙ omega (arith, is))))
  found_at (y ∷ ys) n (suc i) k x is there read h =
      found_at ys (suc n) i k x (omega (arith, is)) (omega (arith, there)) read h.1
      ∙ ap (λ b. cond b (Some y) (find (λ z. number z == k) ys)) (sym (ne_eqb (number y) k (λ e. absurd (omega (arith, is, e, h.0)))))

  -- the same of the element that was read there
  pub found_read : (xs : List X) (i k : ℕ) (x : X) → k ≡ 1 + i → i < length xs → x ≡ get_or xs i x → AreInTurn number 1 xs → Some x ≡ find (λ y. number y == k) xs
  found_read xs i k x is there read h = found_at xs 1 i k x is there read h

  found_above : (xs : List X) (n k : ℕ) → n + length xs ≤ k → AreInTurn number n xs → find (λ x. number x == k) xs ≡ None
  found_above [] n k high h = refl
  found_above (x ∷ xs) n k high h =
      ap (λ b. cond b (Some x) (find (λ y. number y == k) xs)) (ne_eqb (number x) k (λ e. absurd (omega (arith, high, e, h.0))))
      ∙ found_above xs (suc n) k (omega (arith, high)) h.1

  -- there is no element of a number that was not given
  pub found_nowhere : (xs : List X) (k : ℕ) → HasNoPlace k (length xs) → AreInTurn number 1 xs → find (λ x. number x == k) xs ≡ None
  found_nowhere xs k (inl is) h = found_below xs 1 k (omega (arith, is)) h
  found_nowhere xs k (inr past) h = found_above xs 1 k (omega (arith, past)) h

  module _ (f : X → X) (k : ℕ) where
    -- the element of the number changes
    abbrev pub changed : List X → List X
    changed xs = map (λ x. cond (number x == k) (f x) x) xs

    -- no element has a lower number than the first
    pub changed_below : (xs : List X) (n : ℕ) → k < n → AreInTurn number n xs → changed xs ≡ xs
    changed_below [] n low h = refl
    changed_below (x ∷ xs) n low h =
        ap (λ b. cond b (f x) x ∷ changed xs) (ne_eqb (number x) k (λ e. absurd (omega (arith, low, e, h.0))))
        ∙ ap (λ ys. x ∷ ys) (changed_below xs (suc n) (omega (arith, low)) h.1)

    -- no element has a higher number than the last
    pub changed_above : (xs : List X) (n : ℕ) → n + length xs ≤ k → AreInTurn number n xs → changed xs ≡ xs
    changed_above [] n high h = refl
    changed_above (x ∷ xs) n high h =
        ap (λ b. cond b (f x) x ∷ changed xs) (ne_eqb (number x) k (λ e. absurd (omega (arith, high, e, h.0))))
        ∙ ap (λ ys. x ∷ ys) (changed_above xs (suc n) (omega (arith, high)) h.1)

    -- the element at the number's place changes
    pub changed_at : (xs : List X) (n i : ℕ) (d : X) → k ≡ n + i → i < length xs → AreInTurn number n xs → changed xs ≡ set xs i (f (get_or xs i d))
    changed_at [] n i d is within h = absurd (omega (arith, within))
    changed_at (x ∷ xs) n zero d is within h =
        ap (λ b. cond b (f x) x ∷ changed xs) (eq-eqb (number x) k (h.0 ∙ omega (arith, is)))
        ∙ ap (λ ys. f x ∷ ys) (changed_below xs (suc n) (omega (arith, is)) h.1)
    changed_at (x ∷ xs) n (suc i) d is within h =
        ap (λ b. cond b (f x) x ∷ changed xs) (ne_eqb (number x) k (λ e. absurd (omega (arith, is, e, h.0))))
        ∙ ap (λ ys. x ∷ ys) (changed_at xs (suc n) i d (omega (arith, is)) (omega (arith, within)) h.1)

    -- the same of the element that was read there
    pub changed_read : (xs : List X) (i : ℕ) (x : X) → k ≡ 1 + i → i < length xs → x ≡ get_or xs i x → AreInTurn number 1 xs → set xs i (f x) ≡ changed xs
    changed_read xs i x is within read h = ap (λ y. set xs i (f y)) read ∙ sym (changed_at xs 1 i x is within h)

    -- where no element has the number, nothing changes
    pub changed_nowhere : (xs : List X) → HasNoPlace k (length xs) → AreInTurn number 1 xs → xs ≡ changed xs
    changed_nowhere xs (inl is) h = sym (changed_below xs 1 (omega (arith, is)) h)
    changed_nowhere xs (inr past) h = sym (changed_above xs 1 (omega (arith, past)) h)

    -- a change that keeps numbers keeps the turn
    pub turn_changed : ((x : X) → number (f x) ≡ number x) → (xs : List X) (n : ℕ) → AreInTurn number n xs → AreInTurn number n (changed xs)
    turn_changed same [] n h = tt
    turn_changed same (x ∷ xs) n h =
        (elim (number x == k) as (λ b. number (cond b (f x) x) ≡ n) [ true ↦ same x ∙ h.0 | false ↦ h.0 ], turn_changed same xs (suc n) h.1)

  -- elements are in turn also where they changed in a way that keeps their numbers
  pub turn_map : (f : X → X) → ((x : X) → number (f x) ≡ number x) → (xs : List X) (n : ℕ) → AreInTurn number n xs → AreInTurn number n (map f xs)
  turn_map f same [] n h = tt
  turn_map f same (x ∷ xs) n h = (same x ∙ h.0, turn_map f same xs (suc n) h.1)

  -- one more has the next number
  pub turn_push : (xs : List X) (x : X) (n : ℕ) → number x ≡ n + length xs → AreInTurn number n xs → AreInTurn number n (xs ++ x ∷ [])
  turn_push [] x n is h = (is ∙ omega arith, tt)
  turn_push (y ∷ xs) x n is h = (h.0, turn_push xs x (suc n) (is ∙ omega arith) h.1)
