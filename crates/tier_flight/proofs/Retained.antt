-- What `retain` leaves where its closure tests elements and does not change.
use Rattle.std.proofs.Common.{◌≡◌, Bool, List, [], ◌∷◌, refl, subst}
use Rattle.std.specs.Prelude.{filter}
use Rattle.std.specs.List.Retain.{IsFiltered, ReturnsInTurn}
use Rattle.std.proofs.lemmas.List.Elements.{filter_from_retain}

module _ {X F : Type 0} (R : F → X → Bool → F → Type 0) (test : X → Bool) (f : F)
    (says : (x : X) (b : Bool) (g : F) → R f x b g → (b ≡ test x) × (g ≡ f)) where
  -- the answers are the test's
  abbrev Tests : F → X → Bool → F → Type 0
  Tests p x b q = b ≡ test x

  tests : (p : F) (bs : List Bool) (xs : List X) (q : F) → p ≡ f → ReturnsInTurn R p bs xs q →
      ReturnsInTurn Tests p bs xs q
  tests p [] xs q e k = k
  tests p (b ∷ bs) [] q e k = absurd k
  tests p (b ∷ bs) (x ∷ xs) q e k =
      let s = says x b k.0 (subst (λ u. R u x b k.0) e k.1) in
      (k.0, s.0, tests k.0 bs xs q s.1 k.2)

  pub filtered : (xs ys : List X) → IsFiltered R f xs ys → ys ≡ filter test xs
  filtered xs ys k =
      filter_from_retain Tests test (λ p x b q r. r) f xs ys
      (k.0, k.1, k.2, tests f k.0 xs k.1 refl k.3, k.4)
