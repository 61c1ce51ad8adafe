-- Rising numbers below a limit: what is put among them, what follows them, and the first of them.
use Rattle.std.proofs.Common.{◌≡◌, ℕ, zero, suc, ⊎_elim, ◌+◌, ◌-◌, ◌<◌, ◌≤◌, leb, List, [], ◌∷◌, ◌++◌, length, get_or, take, drop, refl, sym, ap, ◌∙◌, subst, arith, add-one, leb-true, leb-false, le-leb}
use Rattle.std.specs.Prelude.{All, Contains}
use Rattle.std.specs.List.{range_with_len}
use Rattle.std.specs.List.Sorted.{IsStrictlyIncreasing}
use Rattle.std.proofs.lemmas.Bool.{cond_both, cond-true, cond-false, cases_lt}
use Rattle.std.proofs.lemmas.List.Elements.{All-nil, All-cons, Contains-append_left, Contains-append_right}
use Rattle.std.proofs.lemmas.List.{get_or-take, get_or-drop, get_or_default, length-take, length-drop}
use Rattle.std.proofs.lemmas.List.Kept.{AllPairs-from_increasing}
use Rattle.std.proofs.lemmas.List.FromFn.{get_or-range_with_len, length-range_with_len}
use Rattle.block_space.specs.Numbers.{placed, IsRisingWithin}

Contains-first : (x : ℕ) (xs : List ℕ) → Contains (x ∷ xs) x
Contains-first x xs = Contains-append_left (x ∷ []) xs x (0, omega arith, refl)

Contains-later : (x y : ℕ) (xs : List ℕ) → Contains xs y → Contains (x ∷ xs) y
Contains-later x y xs there = Contains-append_right (x ∷ []) xs y there

-- a number that was not there, put in its place
pub placed_rises : (low high x : ℕ) (xs : List ℕ) → low ≤ x → x < high → ¬ Contains xs x → IsRisingWithin low high xs → IsRisingWithin low high (placed x xs)
placed_rises low high x [] above below new up = (above, below, tt)
placed_rises low high x (y ∷ ys) above below new up =
    let other : x ≡ y → ⊥ = λ e. new (subst (Contains (y ∷ ys)) (sym e) (Contains-first y ys)) in
    cond_both (leb x y) (x ∷ y ∷ ys) (y ∷ placed x ys) (IsRisingWithin low high)
    (λ t. let before : x ≤ y = leb-true x y t in (above, below, (grind arith, up.1, up.2)))
    (λ f. let after : y < x = leb-false x y f in (up.0, up.1, placed_rises (y + 1) high x ys (omega arith) below (λ there. new (Contains-later y x ys there)) up.2))

-- all numbers from a number on
pub range_rises : (low high first len : ℕ) → low ≤ first → first + len ≤ high → IsRisingWithin low high (range_with_len first len)
range_rises low high first zero above within = tt
range_rises low high first (suc len) above within = (above, omega arith, range_rises (first + 1) high (first + 1) len (omega arith) (omega arith))

-- rising numbers, and behind them all from a number on that none of them reaches
pub rises_on : (low next len : ℕ) (xs : List ℕ) → low ≤ next → IsRisingWithin low next xs → IsRisingWithin low (next + len) (xs ++ range_with_len next len)
rises_on low next len [] above up = range_rises low (next + len) next len above (omega arith)
rises_on low next len (x ∷ xs) above up = (up.0, omega (arith, up.1), rises_on (x + 1) next len xs (omega (arith, up.1)) up.2)

-- a number before all of the range is put among those before it
pub placed-append : (x next len : ℕ) (xs : List ℕ) → x < next → placed x (xs ++ range_with_len next len) ≡ placed x xs ++ range_with_len next len
placed-append x next zero [] before = refl
placed-append x next (suc len) [] before = cond-true (leb x next) _ _ (le-leb x next (omega arith))
placed-append x next len (y ∷ ys) before = cond_both (leb x y) (x ∷ y ∷ ys) (y ∷ placed x ys) (λ l. placed x (y ∷ (ys ++ range_with_len next len)) ≡ l ++ range_with_len next len)
    (λ t. cond-true (leb x y) _ _ t)
    (λ f. cond-false (leb x y) _ _ f ∙ ap (λ (l : List ℕ). y ∷ l) (placed-append x next len ys before))

-- there are no more of them than numbers between the bounds
pub length-rising : (low high : ℕ) (xs : List ℕ) → low ≤ high → IsRisingWithin low high xs → low + length xs ≤ high
length-rising low high [] above up = omega arith
length-rising low high (x ∷ xs) above up = omega (arith, up.0, length-rising (x + 1) high xs (omega (arith, up.1)) up.2)

pub rising_below : (low high : ℕ) (xs : List ℕ) → IsRisingWithin low high xs → All (λ x. x < high) xs
rising_below low high [] up = All-nil (λ x. x < high)
rising_below low high (x ∷ xs) up = All-cons (λ x. x < high) x xs up.1 (rising_below (x + 1) high xs up.2)

pub rising_increases : (low high : ℕ) (xs : List ℕ) → IsRisingWithin low high xs → IsStrictlyIncreasing xs
rising_increases low high [] up k within = absurd (omega arith)
rising_increases low high (x ∷ []) up k within = absurd (omega arith)
rising_increases low high (x ∷ y ∷ ys) up zero within = omega (arith, up.2.0)
rising_increases low high (x ∷ y ∷ ys) up (suc k) within =
    let next : suc k + 1 ≡ suc (k + 1) = omega arith in
    rw next (rising_increases (x + 1) high (y ∷ ys) up.2 k (omega arith))

-- a number from next on, below the limit, is in the range
pub range_contains : (next len x : ℕ) → next ≤ x → x < next + len → Contains (range_with_len next len) x
range_contains next len x from below =
    let at : get_or (range_with_len next len) (x - next) x ≡ x = get_or-range_with_len next len (x - next) x (omega arith) ∙ omega arith in
    (x - next, omega (arith, length-range_with_len next len), at)

-- a number that is not free, among numbers and a range behind them, was given out before the range, and is none of them
pub given_before : (numbers : List ℕ) (next limit x : ℕ) → next ≤ limit → x < limit → ¬ Contains (numbers ++ range_with_len next (limit - next)) x → (x < next) × ¬ Contains numbers x
given_before numbers next limit x within below new = (
  ⊎_elim
      (λ before. before)
      (λ from. absurd (new (Contains-append_right numbers (range_with_len next (limit - next)) x (range_contains next (limit - next) x from (omega arith)))))
      (cases_lt x next),
  λ there. new (Contains-append_left numbers (range_with_len next (limit - next)) x there),
)

-- numbers from a higher bound on are also from a lower one on
pub rises_from : (low first high : ℕ) (xs : List ℕ) → low ≤ first → IsRisingWithin first high xs → IsRisingWithin low high xs
rises_from low first high [] lower up = tt
rises_from low first high (x ∷ xs) lower up = (omega (arith, up.0), up.1, up.2)

-- the same numbers below a higher bound
pub rises_below : (low high higher : ℕ) (xs : List ℕ) → high ≤ higher → IsRisingWithin low high xs → IsRisingWithin low higher xs
rises_below low high higher [] above up = tt
rises_below low high higher (x ∷ xs) above up = (up.0, omega (arith, up.1), rises_below (x + 1) high higher xs above up.2)

-- the first of a range, and the range behind it
pub range_first : (next limit : ℕ) → next < limit → range_with_len next (limit - next) ≡ next ∷ range_with_len (next + 1) (limit - (next + 1))
range_first next limit more =
    let len : limit - next ≡ suc (limit - (next + 1)) = omega arith in
    ap (range_with_len next) len

front_more : (xs : List ℕ) (i x : ℕ) (rest : List ℕ) → drop i xs ≡ x ∷ rest → (take (suc i) xs ≡ take i xs ++ x ∷ []) × (drop (suc i) xs ≡ rest)
front_more [] zero x rest e = absurd (cc)
front_more [] (suc i) x rest e = absurd (cc)
front_more (y ∷ ys) zero x rest e = (cc, cc)
front_more (y ∷ ys) (suc i) x rest e = let more = front_more ys i x rest e in (ap (λ (l : List ℕ). y ∷ l) more.0, more.1)

-- one more number is taken from the front
pub taken_more : (xs : List ℕ) (i x : ℕ) (rest : List ℕ) → drop i xs ≡ x ∷ rest → (take (i + 1) xs ≡ take i xs ++ x ∷ []) × (drop (i + 1) xs ≡ rest)
taken_more xs i x rest e = rw add-one (front_more xs i x rest e)

-- what is in the front of rising numbers is not in the rest
pub front_apart : (count : ℕ) (xs : List ℕ) → IsStrictlyIncreasing xs → All (λ x. ¬ Contains (drop count xs) x) (take count xs)
front_apart count xs up k d within there =
    let x : ℕ = get_or (take count xs) k d in
    let later : ℕ = count + there.0 in
    let here : k < count = omega (arith, length-take count xs) in
    let inside : k < length xs = omega (arith, length-take count xs) in
    let end : later < length xs = omega (arith, there.1, length-drop count xs) in
    let first : get_or xs k x ≡ x = get_or_default xs k x d inside ∙ sym (get_or-take count xs k d here) in
    let again : get_or xs later x ≡ x = sym (get_or-drop count xs there.0 x) ∙ there.2 in
    let apart : get_or xs k x < get_or xs later x = AllPairs-from_increasing xs up k later x (omega arith) end in
    absurd (omega (arith, apart, first, again))
