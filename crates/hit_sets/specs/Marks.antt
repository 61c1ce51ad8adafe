-- What a hit set keeps, by its kind.
use Rattle.std.specs.Prelude.{◌≡◌, ℕ, Bool, List, [], Result, Ok, Err, not}
use Rattle.obj_model.specs.declared.memory.NoMemory.{NoMemory}
use Rattle.hit_sets.specs.declared.kind.HitKind.{HitKind}
use Rattle.hit_sets.specs.declared.kind.HitKind.TheVariants.{ExplicitHash, ExplicitObject, Bloom}
use Rattle.hit_sets.specs.declared.set.Marks.{Marks}
use Rattle.hit_sets.specs.declared.set.Marks.TheVariants.{Hashes, Names, Bits}
use Rattle.hit_sets.specs.Sets.{kind_contains}
use Rattle.hit_sets.specs.Steps.{grown, IsBloom}

-- the kind of the marks
abbrev pub kind_of : Marks → HitKind
kind_of (Hashes names) = ExplicitHash
kind_of (Names names) = ExplicitObject
kind_of (Bits b) = Bloom b.fpp

-- the names that changed the marks
abbrev pub marked_names : Marks → List (List ℕ)
marked_names (Hashes names) = names
marked_names (Names names) = names
marked_names (Bits b) = b.names

-- no name has changed the marks, which are of this kind
pub record IsUnmarked (kind : HitKind) (m : Marks) : Type 0 where
  pub its_kind : kind_of m ≡ kind
  pub no_names : marked_names m ≡ []

-- the marks contain a name
abbrev pub has_mark : Marks → List ℕ → Bool
has_mark m n = kind_contains (kind_of m) (marked_names m) n

-- one name was inserted: the answer, and the names afterwards
abbrev pub Inserts : Marks → List ℕ → Marks → Result Bool NoMemory → Type 0
Inserts m n after (Ok new) = (new ≡ not (has_mark m n)) × (kind_of after ≡ kind_of m)
    × (marked_names after ≡ grown (has_mark m n) (marked_names m) n)
Inserts m n after (Err e) = (after ≡ m) × (IsBloom (kind_of m) → ⊥)
