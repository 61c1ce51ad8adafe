-- What contracts see of free blocks.
use Rattle.std.specs.Prelude.{ℕ, List}

-- free blocks: the numbers that there are lie below the limit, and `free` are those of them that
-- are free, in rising order; so many more can be given back with no more memory
pub record Space : Type 0 where
  pub limit : ℕ
  pub free : List ℕ
  pub spare : ℕ

-- numbers that were given back, in rising order, and the room for more
pub record Shelf : Type 0 where
  pub numbers : List ℕ
  pub spare : ℕ

-- numbers that were given back, and the room
abbrev pub shelf_of : List ℕ → ℕ → Shelf
shelf_of numbers spare = record { numbers = numbers; spare = spare }

-- the free numbers below a limit, and the room
abbrev pub space_of : ℕ → List ℕ → ℕ → Space
space_of limit free spare = record { limit = limit; free = free; spare = spare }
