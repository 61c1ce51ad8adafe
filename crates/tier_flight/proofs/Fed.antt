-- A promotion that was taken out, fed and put back.
use Rattle.std.proofs.Common.{◌≡◌, ◌∙◌, rules, sym, ap, subst, List, ℕ, Option, Some, Result, Ok, Err}
use Rattle.std.specs.Prelude.{IfOk, OnErr}
use Rattle.std.specs.FinMap as fin
use Rattle.copy_chunk.specs.declared.chunk.Chunk.{Chunk}
use Rattle.copy_chunk.specs.declared.gather.Added.{Added}
use Rattle.copy_chunk.specs.Gathers.{Adds}
use Rattle.obj_model.specs.declared.memory.NoMemory.{NoMemory}
use Rattle.tier_types.specs.declared.flight.Flight.{Flight}
use Rattle.tier_flight.specs.Ends.{FlightMap, put_left}
use Rattle.tier_flight.specs.Changes.{IsFedIn, fed_at, gathered}
use Rattle.tier_flight.proofs.Indexed.{get_here}
use Rattle.tier_flight.proofs.Joined.{as_before}
use Rattle.tier_flight.proofs.Swaps.{left_twice}

module _ (m between after : FlightMap) (k : List ℕ) (v stood work : Flight)
    (swapped : between ≡ fin.insert m k v) (before : fin.get m k ≡ Some stood)
    (put : after ≡ put_left between k (Some work)) where
  one_put : after ≡ put_left m k (Some work)
  one_put = put ∙ ap (λ u. put_left u k (Some work)) swapped ∙ left_twice m k v (Some work)

  now : fin.get after k ≡ Some work
  now = ap (λ u. fin.get u k) one_put ∙ get_here m k (Some work)

  -- a chunk came for it
  pub fed_in : (chunk : Chunk) (added : Result Added NoMemory) →
      IfOk added (λ a. Adds chunk (gathered (Some stood)) a (gathered (Some work)))
      → Some work ≡ fed_at (gathered (Some work)) (Some stood) →
      IfOk added (λ a. IsFedIn k chunk a m after)
  fed_in chunk (Ok a) adds fed = record {
    adds = subst (λ (w : Option Flight). Adds chunk (gathered w) a (gathered (fin.get after k)))
        (sym before)
        (subst (λ (w : Option Flight). Adds chunk (gathered (Some stood)) a (gathered w)) (sym now)
        adds);
    stays = one_put ∙ ap (put_left m k)
        (fed ∙ ap (λ w. fed_at (gathered w) (Some stood)) (sym now)
        ∙ ap (fed_at (gathered (fin.get after k))) (sym before));
  }
  fed_in chunk (Err e) adds fed = search rules

  -- nothing came for it
  pub as_it_was : (added : Result Added NoMemory) → OnErr added (work ≡ stood) →
      OnErr added (after ≡ m)
  as_it_was (Ok a) same = search rules
  as_it_was (Err e) same = as_before m between after k v stood swapped before
      (put ∙ ap (λ w. put_left between k (Some w)) same)
