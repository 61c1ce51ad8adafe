-- Numbers in rising order depend on which numbers they are, and not on the order in which they came.
use Rattle.std.proofs.Common.{◌≡◌, ℕ, suc, ◌+◌, ◌<◌, ◌≤◌, Bool, cond, eqb, leb, List, [], ◌∷◌, length, refl, sym, ap, ◌∙◌, subst, ⊎_elim, arith, eq-eqb, ne_eqb}
use Rattle.std.specs.Prelude.{IsPermutation, sum_by}
use Rattle.std.specs.List.{AllByRecursion}
use Rattle.std.proofs.lemmas.Bool.{cond_both, cond-true, cases_eq, leb-true}
use Rattle.std.proofs.lemmas.List.Recursion.{is_sum_by}
use Rattle.std.proofs.lemmas.List.Sorted.{sum_by-IsPermutation, IsPermutation-refl, IsPermutation-trans, IsPermutation-middle, IsPermutation-cons}
use Rattle.block_space.specs.Numbers.{placed, in_order}

-- 1 where it holds
abbrev tally : Bool → ℕ
tally holds = cond holds 1 0

-- how often a number is there
abbrev count : ℕ → List ℕ → ℕ
count x [] = 0
count x (y ∷ ys) = tally (eqb y x) + count x ys

-- numbers that do not fall, from low on
abbrev IsAscendingFrom : ℕ → List ℕ → Type 0
IsAscendingFrom low [] = Unit {0}
IsAscendingFrom low (x ∷ xs) = (low ≤ x) × IsAscendingFrom x xs

count_is : (x : ℕ) (xs : List ℕ) → count x xs ≡ sum_by (λ y. tally (eqb y x)) xs
count_is x xs = is_sum_by (count x) (λ y. tally (eqb y x)) refl (λ y ys. refl) xs

count-permutation : (x : ℕ) (xs ys : List ℕ) → IsPermutation xs ys → count x ys ≡ count x xs
count-permutation x xs ys moved = count_is x ys ∙ sum_by-IsPermutation (λ y. tally (eqb y x)) xs ys moved ∙ sym (count_is x xs)

count-placed : (x y : ℕ) (ys : List ℕ) → count x (placed y ys) ≡ count x (y ∷ ys)
count-placed x y [] = refl
count-placed x y (z ∷ zs) = cond_both (leb y z) (y ∷ z ∷ zs) (z ∷ placed y zs) (λ l. count x l ≡ count x (y ∷ z ∷ zs)) (λ _. refl) (λ _. omega (arith, count-placed x y zs))

count-in_order : (x : ℕ) (xs : List ℕ) → count x (in_order xs) ≡ count x xs
count-in_order x [] = refl
count-in_order x (y ∷ ys) = count-placed x y (in_order ys) ∙ ap (λ (n : ℕ). tally (eqb y x) + n) (count-in_order x ys)

placed_ascends : (low y : ℕ) (ys : List ℕ) → low ≤ y → IsAscendingFrom low ys → IsAscendingFrom low (placed y ys)
placed_ascends low y [] above up = (above, tt)
placed_ascends low y (z ∷ zs) above up = cond_both (leb y z) (y ∷ z ∷ zs) (z ∷ placed y zs) (IsAscendingFrom low)
    (λ t. (above, (leb-true y z t, up.1)))
    (λ f. (up.0, placed_ascends z y zs (let later : z < y = grind arith in omega arith) up.1))

in_order_ascends : (low : ℕ) (xs : List ℕ) → AllByRecursion (λ y. low ≤ y) xs → IsAscendingFrom low (in_order xs)
in_order_ascends low [] above = tt
in_order_ascends low (x ∷ xs) above = placed_ascends low x (in_order xs) above.0 (in_order_ascends low xs above.1)

-- what is there is not below the first
least : (low x : ℕ) (xs : List ℕ) → IsAscendingFrom low xs → 0 < count x xs → low ≤ x
least low x [] up there = absurd (omega arith)
least low x (y ∷ ys) up there = ⊎_elim
    (λ e. omega (arith, up.0))
    (λ ne. omega (arith, up.0, least y x ys up.1 (let other : tally (eqb y x) ≡ 0 = ap tally (ne_eqb y x ne) in omega arith)))
    (cases_eq y x)

count-head : (x : ℕ) (xs : List ℕ) → count x (x ∷ xs) ≡ suc (count x xs)
count-head x xs = ap (λ (b : Bool). tally b + count x xs) (eq-eqb x x refl) ∙ omega arith

-- two lists that do not fall and have each number as often are the same
same_order : (low : ℕ) (xs ys : List ℕ) → IsAscendingFrom low xs → IsAscendingFrom low ys → ((x : ℕ) → count x xs ≡ count x ys) → xs ≡ ys
same_order low [] [] up vp counts = refl
same_order low [] (y ∷ ys) up vp counts = absurd (omega (arith, counts y, count-head y ys))
same_order low (x ∷ xs) [] up vp counts = absurd (omega (arith, counts x, count-head x xs))
same_order low (x ∷ xs) (y ∷ ys) up vp counts =
    let below : x ≤ y = least x y (x ∷ xs) (omega arith, up.1) (omega (arith, counts y, count-head y ys)) in
    let above : y ≤ x = least y x (y ∷ ys) (omega arith, vp.1) (omega (arith, counts x, count-head x xs)) in
    let e : x ≡ y = omega arith in
    let up_too : IsAscendingFrom x ys = subst (λ (n : ℕ). IsAscendingFrom n ys) (sym e) vp.1 in
    ap (λ (l : List ℕ). x ∷ l) (same_order x xs ys up.1 up_too (λ z. omega (arith, counts z, ap (λ (n : ℕ). tally (eqb n z)) e))) ∙ ap (λ (n : ℕ). n ∷ ys) e

any_above_zero : (xs : List ℕ) → AllByRecursion (λ y. 0 ≤ y) xs
any_above_zero [] = tt
any_above_zero (x ∷ xs) = (omega arith, any_above_zero xs)

pub in_order-permutation : (xs ys : List ℕ) → IsPermutation xs ys → in_order xs ≡ in_order ys
in_order-permutation xs ys moved = same_order 0 (in_order xs) (in_order ys)
    (in_order_ascends 0 xs (any_above_zero xs))
    (in_order_ascends 0 ys (any_above_zero ys))
    (λ x. count-in_order x xs ∙ sym (count-permutation x xs ys moved) ∙ sym (count-in_order x ys))

placed-first : (low : ℕ) (xs : List ℕ) → IsAscendingFrom low xs → placed low xs ≡ low ∷ xs
placed-first low [] up = refl
placed-first low (x ∷ xs) up = cond-true (leb low x) (low ∷ x ∷ xs) (x ∷ placed low xs) (grind (arith, up.0))

-- the least of some numbers comes first
pub in_order-least : (low : ℕ) (xs : List ℕ) → AllByRecursion (λ y. low ≤ y) xs → in_order (low ∷ xs) ≡ low ∷ in_order xs
in_order-least low xs above = placed-first low (in_order xs) (in_order_ascends low xs above)

pub length-placed : (x : ℕ) (xs : List ℕ) → length (placed x xs) ≡ suc (length xs)
length-placed x [] = refl
length-placed x (y ∷ ys) = cond_both (leb x y) (x ∷ y ∷ ys) (y ∷ placed x ys) (λ l. length l ≡ suc (length (y ∷ ys))) (λ _. refl) (λ _. ap (λ (n : ℕ). suc n) (length-placed x ys))

pub length-in_order : (xs : List ℕ) → length (in_order xs) ≡ length xs
length-in_order [] = refl
length-in_order (x ∷ xs) = length-placed x (in_order xs) ∙ ap (λ (n : ℕ). suc n) (length-in_order xs)

-- a number that is put in its place is there, and the others are
pub placed_permutation : (x : ℕ) (xs : List ℕ) → IsPermutation (x ∷ xs) (placed x xs)
placed_permutation x [] = IsPermutation-refl (x ∷ [])
placed_permutation x (y ∷ ys) = cond_both (leb x y) (x ∷ y ∷ ys) (y ∷ placed x ys) (IsPermutation (x ∷ y ∷ ys))
    (λ _. IsPermutation-refl (x ∷ y ∷ ys))
    (λ _. IsPermutation-trans (x ∷ y ∷ ys) (y ∷ x ∷ ys) (y ∷ placed x ys) (IsPermutation-middle (x ∷ []) y ys) (IsPermutation-cons y (x ∷ ys) (placed x ys) (placed_permutation x ys)))
