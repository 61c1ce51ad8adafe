-- Choices of an outcome.
use Rattle.std.specs.Prelude.{◌≡◌, ◌⊎◌}
use Rattle.tier_view.specs.Views.{GroupView}

-- exactly where this is so it is the first, and else the second
abbrev pub Where : (P First Second : Type 0) → Type 0
Where P First Second = P × First ⊎ (P → ⊥) × Second

-- this is told, and nothing has changed
abbrev pub Refuses : {X : Type 0} → (told : X) → (old new : GroupView) → (outcome : X) → Type 0
Refuses told old new outcome = (outcome ≡ told) × (new ≡ old)
