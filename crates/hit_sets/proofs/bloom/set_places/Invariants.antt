use Rattle.std.specs.Prelude.{◌≡◌, ℕ, ◌||◌, ◌==◌, take}
use Rattle.std.specs.List.{list_any}
use Rattle.hit_sets.specs.Sets.{ranks_of, hash_place}
use Rattle.hit_sets.specs.Steps.{bit_of}
use Rattle.hit_sets.proofs.bloom.set_places.Given as goal

-- the bits at the places so far are set, and all others are as before
abbrev pub invariant-loop-rank : goal.invariant-loop-rank
invariant-loop-rank l = (i : ℕ) → bit_of l.words i ≡ (list_any (λ rank. hash_place l.size l.hash rank == i) (take l.rank-index (ranks_of l.fpp)) || bit_of l.initial.words i)
