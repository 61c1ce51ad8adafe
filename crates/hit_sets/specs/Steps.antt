-- What the private parts of a hit set promise.
use Rattle.std.specs.Prelude.{◌≡◌, ℕ, ◌*◌, ◌/◌, ◌%◌, ◌==◌, Bool, List, [], ◌∷◌, ◌++◌, slice_index, if◌then◌else◌, length}
use Rattle.std.specs.Int.{bit_at}
use Rattle.hit_sets.specs.Sets.{bits_of, is_set}
use Rattle.hit_sets.specs.declared.kind.HitKind.{HitKind}
use Rattle.hit_sets.specs.declared.kind.HitKind.TheVariants.{ExplicitHash, ExplicitObject, Bloom}

-- bit i of a row of words of 64 bits
abbrev pub bit_of : List ℕ → ℕ → Bool
bit_of words i = bit_at (slice_index words (i / 64)) (i % 64) == 1

-- the names after one more was inserted, where it is not contained
abbrev pub grown : Bool → List (List ℕ) → List ℕ → List (List ℕ)
grown held names n = if held then names else names ++ n ∷ []

-- a Bloom set: its rate and the names that changed it
pub record BloomNames : Type 0 where
  pub fpp : ℕ
  pub names : List (List ℕ)

-- the words have exactly the bits that the names set
pub record HasBits (fpp : ℕ) (words : List ℕ) (names : List (List ℕ)) : Type 0 where
  pub size : length words * 64 ≡ bits_of fpp
  pub bits : (i : ℕ) → bit_of words i ≡ is_set fpp names i

-- an insertion into a Bloom set needs no memory
abbrev pub IsBloom : HitKind → Type 0
IsBloom ExplicitHash = ⊥
IsBloom ExplicitObject = ⊥
IsBloom (Bloom fpp) = Unit {0}
