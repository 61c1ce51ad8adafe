-- Members of lists.
use Rattle.std.proofs.Common.{◌<◌, ℕ, zero, suc, length, get_or, arith, List, [], ◌∷◌, ◌++◌, refl, inl, inr}
use Rattle.tier_protocol.specs.Tiers.{IsIn, AreIn}

-- what stands at a place is in the list
pub is_in : {X : Type 0} (xs : List X) (i : ℕ) (d : X) → i < length xs → IsIn (get_or xs i d) xs
is_in [] i d h = absurd (omega (arith, h))
is_in (x ∷ xs) zero d h = inl refl
is_in (x ∷ xs) (suc i) d h = inr (is_in xs i d (omega (arith, h)))

-- one more at the end is one more in front
pub in_behind : {X : Type 0} (xs : List X) (y : X) → AreIn (xs ++ y ∷ []) (y ∷ xs)
in_behind [] y x (inl same) = inl same
in_behind [] y x (inr none) = absurd none
in_behind (z ∷ zs) y x (inl same) = inr (inl same)
in_behind (z ∷ zs) y x (inr on) = elim (in_behind zs y x on)
    [ inl same ↦ inl same | inr old ↦ inr (inr old) ]
