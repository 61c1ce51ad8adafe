-- Values that have their numbers.
use Rattle.std.proofs.Common.{◌≡◌, ℕ, ◌==◌, cond, not, true, false, List, [], ◌∷◌, filter, Some, find, refl, sym, ap, ◌∙◌}
use Rattle.std.specs.List.{AllByRecursion}
use Rattle.std.specs.Map.{lookup, values_of}

module _ {X : Type 0} (number : X → ℕ) where
  -- each value has the number under which it is held
  abbrev pub AreUnder : List (ℕ × X) → Type 0
  AreUnder held = AllByRecursion (λ e. number e.1 ≡ e.0) held

  pub found_value : (n : ℕ) (held : List (ℕ × X)) → AreUnder held → lookup (λ k. k == n) held ≡ find (λ x. number x == n) (values_of held)
  found_value n [] h = refl
  found_value n (e ∷ es) h =
      ap (λ k. cond (k == n) (Some e.1) (lookup (λ k. k == n) es)) (sym h.0)
      ∙ ap (λ o. cond (number e.1 == n) (Some e.1) o) (found_value n es h.1)

  pub taken_value : (n : ℕ) (held : List (ℕ × X)) → AreUnder held → values_of (filter (λ e. not (e.0 == n)) held) ≡ filter (λ x. not (number x == n)) (values_of held)
  taken_value n [] h = refl
  taken_value n (e ∷ es) h =
      elim (e.0 == n) as (λ b. values_of (cond (not b) (e ∷ filter (λ e. not (e.0 == n)) es) (filter (λ e. not (e.0 == n)) es)) ≡ cond (not b) (e.1 ∷ filter (λ x. not (number x == n)) (values_of es)) (filter (λ x. not (number x == n)) (values_of es))) [
        | true ↦ taken_value n es h.1
        | false ↦ ap (λ xs. e.1 ∷ xs) (taken_value n es h.1)
      ]
      ∙ ap (λ k. cond (not (k == n)) (e.1 ∷ filter (λ x. not (number x == n)) (values_of es)) (filter (λ x. not (number x == n)) (values_of es))) (sym h.0)

  pub under_taken : (n : ℕ) (held : List (ℕ × X)) → AreUnder held → AreUnder (filter (λ e. not (e.0 == n)) held)
  under_taken n [] h = tt
  under_taken n (e ∷ es) h = elim (e.0 == n) as (λ b. AreUnder (cond (not b) (e ∷ filter (λ e. not (e.0 == n)) es) (filter (λ e. not (e.0 == n)) es))) [
    | true ↦ under_taken n es h.1
    | false ↦ (h.0, under_taken n es h.1)
  ]
