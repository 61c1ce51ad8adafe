-- The names that changed a set, oldest first, as the chain that contracts see.
use Rattle.std.specs.Prelude.{ℕ, List, [], ◌∷◌, ◌++◌}
use Rattle.hit_sets.specs.declared.past.Past.{Past, fold-Past}
use Rattle.hit_sets.specs.declared.past.Past.TheOpen.{Past-F}

-- one link: no name, or one more behind those before it
abbrev pub names_step : Past-F (List (List ℕ)) → List (List ℕ)
names_step Past-F.Start = []
names_step (Past-F.After before name) = before.value ++ name.value ∷ []

-- the names of a chain
abbrev pub names_of : Past → List (List ℕ)
names_of = fold-Past (List (List ℕ)) names_step
