-- The limits of every store, each named once.
use Rattle.std.specs.Prelude.{◌≡◌, ◌≤◌, ℕ, ◌+◌, ◌^◌, List, length, Some, sum_by}
use Rattle.std.specs.FinMap as fin
use Rattle.obj_model.specs.Changes.{IsChange}
use Rattle.obj_model.specs.declared.change.Change.TheVariants.{Put}
use Rattle.store_face.specs.Tables.{Table}

-- the most bytes of all keys and values of a store together, and of a log
abbrev pub store_limit : ℕ
store_limit = 2 ^ 40

-- the last generation of a store in blocks
abbrev pub generation_limit : ℕ
generation_limit = 2 ^ 62

-- the bytes of a key and its value
abbrev pub entry_weight : List ℕ × List ℕ → ℕ
entry_weight e = length e.0 + length e.1

-- the bytes of all keys and values of a map
abbrev pub weight : Table → ℕ
weight t = sum_by entry_weight (fin.entries t)

-- A map within the limits of a store: each key and each value is one that could be put, a key of 1
-- to 256 bytes and a value of at most 16,777,216, and all of them together are no heavier than a
-- store may be.
pub record IsPoolMap (t : Table) : Type 0 where
  pub each : (key value : List ℕ) → fin.get t key ≡ Some value → IsChange (Put key value)
  pub weighs : weight t ≤ store_limit
