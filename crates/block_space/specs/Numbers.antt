-- Lists of block numbers in rising order.
use Rattle.std.specs.Prelude.{ℕ, ◌+◌, ◌<◌, ◌≤◌, List, [], ◌∷◌, if◌then◌else◌, nat_le}

-- a number put in its place among rising numbers: before the first that is not below it
abbrev pub placed : ℕ → List ℕ → List ℕ
placed number [] = number ∷ []
placed number (first ∷ others) = if nat_le number first then number ∷ first ∷ others else first ∷
    placed number others

-- the same numbers in rising order
abbrev pub in_order : List ℕ → List ℕ
in_order [] = []
in_order (first ∷ others) = placed first (in_order others)

-- the numbers rise, each once, and lie from low up to high
abbrev pub IsRisingWithin : ℕ → ℕ → List ℕ → Type 0
IsRisingWithin low high [] = Unit {0}
IsRisingWithin low high (first ∷ others) = (low ≤ first) × (first < high)
    × IsRisingWithin (first + 1) high others
