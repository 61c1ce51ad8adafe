-- What a heap of numbers in opposite order holds, in rising order.
use Rattle.std.proofs.Common.{◌≡◌, ℕ, ◌≤◌, false, List, [], ◌∷◌, map, sym, ◌∙◌, arith}
use Rattle.std.specs.Prelude.{IsPermutation}
use Rattle.std.specs.List.{AllByRecursion}
use Rattle.std.specs.Ordering.{nat_cmp, is_lt}
use Rattle.std.specs.BinaryHeap.{IsUpperBound}
use Rattle.std.specs.declared.cmp.Reverse.{Reverse}
use Rattle.std.proofs.lemmas.List.Sorted.{IsPermutation-map}
use Rattle.block_space.specs.Numbers.{placed, in_order}
use Rattle.block_space.proofs.Order.{in_order-permutation, in_order-least}

-- the numbers in order after a push
pub pushed : (item : Reverse ℕ) (old new : List (Reverse ℕ)) → IsPermutation (item ∷ old) new → in_order (map (λ r. r.0) new) ≡ placed item.0 (in_order (map (λ r. r.0) old))
pushed item old new moved = sym (in_order-permutation (map (λ r. r.0) (item ∷ old)) (map (λ r. r.0) new) (IsPermutation-map (λ r. r.0) (item ∷ old) new moved))

not_below : (x y : ℕ) → is_lt (nat_cmp y x) ≡ false → x ≤ y
not_below x y h = grind arith

above_top : (top : Reverse ℕ) (items : List (Reverse ℕ)) → IsUpperBound (λ x y. nat_cmp y.0 x.0) top items → AllByRecursion (λ y. top.0 ≤ y) (map (λ r. r.0) items)
above_top top [] bound = tt
above_top top (item ∷ items) bound = (not_below top.0 item.0 bound.0, above_top top items bound.1)

-- the numbers in order before a pop
pub popped : (top : Reverse ℕ) (old new : List (Reverse ℕ)) → IsPermutation old (top ∷ new) → IsUpperBound (λ x y. nat_cmp y.0 x.0) top new → in_order (map (λ r. r.0) old) ≡ top.0 ∷ in_order (map (λ r. r.0) new)
popped top old new moved bound =
    in_order-permutation (map (λ r. r.0) old) (map (λ r. r.0) (top ∷ new)) (IsPermutation-map (λ r. r.0) old (top ∷ new) moved)
    ∙ in_order-least top.0 (map (λ r. r.0) new) (above_top top new bound)
