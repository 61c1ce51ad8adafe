-- What a hit set contains, by the names whose insertion changed it.
use Rattle.std.specs.Prelude.{ℕ, ◌+◌, ◌*◌, ◌/◌, ◌%◌, ◌^◌, ◌==◌, Bool, List, [], ◌∷◌, ◌++◌, length, take, bit_or, nat_le, nat_lt, if◌then◌else◌, Option, Some, None}
use Rattle.std.specs.List.{list_any, list_all}
use Rattle.std.specs.BTreeMap.{is_at}
use Rattle.std.specs.Ordering.{nat_cmp}
use Rattle.obj_model.specs.Names.{name_cmp}
use Rattle.name_hash.specs.Fnv.{hash_of}
use Rattle.hit_sets.specs.declared.kind.HitKind.{HitKind}
use Rattle.hit_sets.specs.declared.kind.HitKind.TheVariants.{ExplicitHash, ExplicitObject, Bloom}

-- a hit set: its kind, the moment from which it counts, and the names whose insertion changed it,
-- oldest first
pub record Hits : Type 0 where
  pub kind : HitKind
  pub start : ℕ
  pub names : List (List ℕ)

-- the set of this kind that begins at this moment
abbrev pub empty : HitKind → ℕ → Hits
empty kind start = record { kind = kind; start = start; names = [] }

-- two names are the same where the order of names ties them
abbrev pub is_same_name : List ℕ → List ℕ → Bool
is_same_name q n = is_at (name_cmp q) n

-- two names have the same hash
abbrev pub is_same_hash : List ℕ → List ℕ → Bool
is_same_hash q n = is_at (nat_cmp (hash_of q)) (hash_of n)

-- how many bits a Bloom set has for this rate of false positives
abbrev pub bits_of : ℕ → ℕ
bits_of fpp = if fpp == 1000 then 61440 else (if fpp == 10000 then 40960 else 28672)

-- the numbers of the places of a name in a Bloom set with this rate
abbrev pub ranks_of : ℕ → List ℕ
ranks_of fpp = take (if fpp == 1000 then 10 else (if fpp == 10000 then 7 else 4))
    (0 ∷ 1 ∷ 2 ∷ 3 ∷ 4 ∷ 5 ∷ 6 ∷ 7 ∷ 8 ∷ 9 ∷ [])

-- a place of a hash among so many bits: its lower half, and its upper half made odd as often as the
-- rank says
abbrev pub hash_place : ℕ → ℕ → ℕ → ℕ
hash_place bits hash rank = (hash % 2 ^ 32 + rank * bit_or (hash / 2 ^ 32) 1) % bits

-- a place of a name in a Bloom set with this rate
abbrev pub place : ℕ → List ℕ → ℕ → ℕ
place fpp n rank = hash_place (bits_of fpp) (hash_of n) rank

-- the place of this rank of a name, where the name has one of this rank
abbrev pub place_at : ℕ → List ℕ → ℕ → Option ℕ
place_at fpp n rank = if nat_lt rank (length (ranks_of fpp)) then Some (place fpp n rank) else None

-- a hash sets this bit
abbrev pub is_set_by : ℕ → ℕ → ℕ → Bool
is_set_by fpp bit hash = list_any (λ rank. hash_place (bits_of fpp) hash rank == bit) (ranks_of fpp)

-- some of the names sets this bit
abbrev pub is_set : ℕ → List (List ℕ) → ℕ → Bool
is_set fpp names bit = list_any (λ n. is_set_by fpp bit (hash_of n)) names

-- a Bloom set contains a name where each of its places is one of some name
abbrev pub bloom_contains : ℕ → List (List ℕ) → List ℕ → Bool
bloom_contains fpp names q = list_all (λ rank. is_set fpp names (place fpp q rank)) (ranks_of fpp)

-- a set of this kind contains a name, by the names that changed it
abbrev pub kind_contains : HitKind → List (List ℕ) → List ℕ → Bool
kind_contains ExplicitHash names q = list_any (is_same_hash q) names
kind_contains ExplicitObject names q = list_any (is_same_name q) names
kind_contains (Bloom fpp) names q = bloom_contains fpp names q

-- a hit set contains a name
abbrev pub contains : Hits → List ℕ → Bool
contains s q = kind_contains s.kind s.names q

-- a hit set after a name was inserted, which changes it where it does not contain the name
abbrev pub inserted : Hits → List ℕ → Hits
inserted s n = if contains s n then s else record s { names = s.names ++ n ∷ [] }

-- how many insertions that changed it make a hit set full
abbrev pub full_at : ℕ
full_at = 4096

-- a hit set is full after so many insertions that changed it
abbrev pub is_full : Hits → Bool
is_full s = nat_le full_at (length s.names)
