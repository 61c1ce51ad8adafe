-- Tables by name, and what lies above a name.
use Rattle.std.specs.Prelude.{ℕ, Bool, true, List, filter, Option, Some, None}
use Rattle.std.specs.Ordering.{is_lt}
use Rattle.std.specs.FinMap as map
use Rattle.obj_model.specs.Names.{name_cmp}

-- values by key
abbrev pub Table : Type 0
Table = map.FinMap name_cmp (List ℕ)

-- a name above this one, where there is one
abbrev pub is_above : Option (List ℕ) → List ℕ → Bool
is_above None name = true
is_above (Some after) name = is_lt (name_cmp after name)

-- the entries with names above this one, in the order of their names
abbrev pub entries_above : {X : Type 0} → Option (List ℕ) → map.FinMap name_cmp X
    → List (List ℕ × X)
entries_above after t = filter (λ e. is_above after e.0) (map.entries t)
