-- Lists in an order, in which no two elements tie.
use Rattle.std.specs.Prelude.{List, [], ◌∷◌}
use Rattle.std.specs.declared.cmp.Ordering.{Ordering}
use Rattle.std.specs.Ordering.{match_ordering}

-- the list with this element, which replaces one that it ties with, or stands at its place
abbrev pub placed : {X : Type 0} → (X → X → Ordering) → X → List X → List X
placed order x [] = x ∷ []
placed order x (y ∷ ys) =
    match_ordering (order x y) (x ∷ y ∷ ys) (x ∷ ys) (y ∷ placed order x ys)
