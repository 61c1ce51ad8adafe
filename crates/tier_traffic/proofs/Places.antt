-- What holds of a list in which an element was placed.
use Rattle.std.proofs.Common.{◌≡◌, ◌≢◌, inl, inr, List, [], ◌∷◌, Ordering, Less, Equal, Greater, ap, refl, ◌∙◌}
use Rattle.std.specs.List.{AllByRecursion}
use Rattle.std.specs.Ordering.{match_ordering}
use Rattle.tier_types.specs.Flights.{IsIn}
use Rattle.tier_traffic.specs.Places.{placed}

-- what holds of the element and of all others
pub all_placed : {X : Type 0} (P : X → Type 0) (order : X → X → Ordering) (x : X) → P x → (xs : List X) → AllByRecursion P xs → AllByRecursion P (placed order x xs)
all_placed P order x p [] h = (p, tt)
all_placed P order x p (y ∷ ys) h = elim (order x y) as (λ r. AllByRecursion P (match_ordering r (x ∷ y ∷ ys) (x ∷ ys) (y ∷ placed order x ys))) [
  | Less ↦ (p, h)
  | Equal ↦ (p, h.1)
  | Greater ↦ (h.0, all_placed P order x p ys h.1)
]

-- the element is there
pub placed_is_in : {X : Type 0} (order : X → X → Ordering) (x : X) (xs : List X) → IsIn x (placed order x xs)
placed_is_in order x [] = inl refl
placed_is_in order x (y ∷ ys) = elim (order x y) as (λ r. IsIn x (match_ordering r (x ∷ y ∷ ys) (x ∷ ys) (y ∷ placed order x ys))) [
  | Less ↦ inl refl
  | Equal ↦ inl refl
  | Greater ↦ inr (placed_is_in order x ys)
]

-- so is each other one that does not tie with it
pub others_stay : {X : Type 0} (order : X → X → Ordering) (x z : X) → order x z ≢ Equal → (xs : List X) → IsIn z xs → IsIn z (placed order x xs)
others_stay order x z apart [] on = absurd on
others_stay order x z apart (y ∷ ys) (inl is) =
    elim (order x y) as (λ r. order x y ≡ r → IsIn z (match_ordering r (x ∷ y ∷ ys) (x ∷ ys) (y ∷ placed order x ys))) [
      | Less ↦ λ _. inr (inl is)
      | Equal ↦ λ t. absurd (apart (ap (order x) is ∙ t))
      | Greater ↦ λ _. inl is
    ] refl
others_stay order x z apart (y ∷ ys) (inr on) = elim (order x y) as (λ r. IsIn z (match_ordering r (x ∷ y ∷ ys) (x ∷ ys) (y ∷ placed order x ys))) [
  | Less ↦ inr (inr on)
  | Equal ↦ inr on
  | Greater ↦ inr (others_stay order x z apart ys on)
]
