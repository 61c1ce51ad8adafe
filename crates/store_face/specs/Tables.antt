-- Pool maps, and changes of them.
use Rattle.std.specs.Prelude.{ℕ, List, [], ◌∷◌, filter, Option}
use Rattle.std.specs.FinMap as fin
use Rattle.obj_model.specs.Names.{name_cmp}
use Rattle.obj_model.specs.Tables.{is_above}
use Rattle.obj_model.specs.declared.change.Change.{Change}
use Rattle.obj_model.specs.declared.change.Change.TheVariants.{Put, Remove}

-- a map from keys to values, both lists of bytes
abbrev pub Table : Type 0
Table = fin.FinMap name_cmp (List ℕ)

-- what one change makes of a map
abbrev pub changed : Table → Change → Table
changed t (Put key value) = fin.insert t key value
changed t (Remove key) = fin.remove t key

-- what changes make of a map, one after another
abbrev pub changed_by : Table → List Change → Table
changed_by t [] = t
changed_by t (c ∷ cs) = changed_by (changed t c) cs

-- the keys of a map above the bound, in the order of their bytes
abbrev pub keys_above : Option (List ℕ) → Table → List (List ℕ)
keys_above bound t = filter (is_above bound) (fin.keys t)
