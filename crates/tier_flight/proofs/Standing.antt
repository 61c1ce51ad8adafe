-- The indexes beside work that stands and changes.
use Rattle.std.proofs.Common.{◌≡◌, ◌∙◌, sym, ap, refl, subst, ℕ, Bool, true, false, List, Option, Some, None, Result, Ok, Err, not, ◌&&◌, ◌||◌, ◌==◌}
use Rattle.std.specs.Prelude.{IfOk, OnErr}
use Rattle.std.specs.FinMap as fin
use Rattle.std.proofs.lemmas.Bool.{eqb-true}
use Rattle.copy_chunk.specs.declared.chunk.Chunk.{Chunk}
use Rattle.copy_chunk.specs.declared.gather.Added.{Added}
use Rattle.obj_model.specs.declared.memory.NoMemory.{NoMemory}
use Rattle.tier_types.specs.declared.flight.Flight.{Flight}
use Rattle.tier_types.specs.declared.flight.Flight.TheVariants as flight
use Rattle.tier_flight.specs.declared.index.Index.{Index}
use Rattle.tier_flight.specs.Changes.{IsFedIn, IsUnheld, fed_at, gathered, held_at}
use Rattle.tier_flight.specs.Ends.{FlightMap}
use Rattle.tier_flight.specs.Indexes.{IsIndexed}
use Rattle.tier_flight.specs.Numbers.{has_call, has_opid}
use Rattle.tier_flight.proofs.Indexed.{kept}

-- a call that takes work over changes no operation
pub held_opid : (call : ℕ) (w : Option Flight) (k : ℕ) → has_opid (held_at call w) k ≡ has_opid w k
held_opid call None k = refl
held_opid call (Some (flight.Promote c o g a)) k = refl
held_opid call (Some (flight.Write d w o r)) k = refl
held_opid call (Some (flight.Reads list)) k = refl
held_opid call (Some (flight.Flush c o s b d)) k = refl

-- and waits for it beside none
pub held_call : (call : ℕ) (w : Option Flight) → IsUnheld w → (k : ℕ) →
    has_call (held_at call w) k ≡ (has_call w k || (call == k))
held_call call None u k = absurd u
held_call call (Some (flight.Promote c o g a)) u k = absurd u
held_call call (Some (flight.Write None w o r)) u k = refl
held_call call (Some (flight.Write (Some d) w o r)) u k = absurd u
held_call call (Some (flight.Reads list)) u k = absurd u
held_call call (Some (flight.Flush None o s b d)) u k = refl
held_call call (Some (flight.Flush (Some c) o s b d)) u k = absurd u

fed_opid : (chunks : List Chunk) (w : Option Flight) (k : ℕ) →
    has_opid (fed_at chunks w) k ≡ has_opid w k
fed_opid chunks None k = refl
fed_opid chunks (Some (flight.Promote c o g a)) k = refl
fed_opid chunks (Some (flight.Write d w o r)) k = refl
fed_opid chunks (Some (flight.Reads list)) k = refl
fed_opid chunks (Some (flight.Flush c o s b d)) k = refl

fed_call : (chunks : List Chunk) (w : Option Flight) (k : ℕ) →
    has_call (fed_at chunks w) k ≡ has_call w k
fed_call chunks None k = refl
fed_call chunks (Some (flight.Promote c o g a)) k = refl
fed_call chunks (Some (flight.Write d w o r)) k = refl
fed_call chunks (Some (flight.Reads list)) k = refl
fed_call chunks (Some (flight.Flush c o s b d)) k = refl

-- a chunk changes no number
pub fed_indexed : (opids calls : Index) (m new : FlightMap) (name : List ℕ) (chunk : Chunk)
    (r : Result Added NoMemory) → IsIndexed opids calls m
    → IfOk r (λ a. IsFedIn name chunk a m new) → OnErr r (new ≡ m) → IsIndexed opids calls new
fed_indexed opids calls m new name chunk (Ok a) right fed same = record {
  opid = kept has_opid opids m new name _ fed.stays right.opid
      (fed_opid (gathered (fin.get new name)) (fin.get m name));
  call = kept has_call calls m new name _ fed.stays right.call
      (fed_call (gathered (fin.get new name)) (fin.get m name));
}
fed_indexed opids calls m new name chunk (Err e) right fed same =
    subst (IsIndexed opids calls) (sym same) right

all_out : (b : Bool) → b ≡ (b && true)
all_out true = refl
all_out false = refl

-- work that is taken out loses all its numbers
pub all_lost : (has : Option Flight → ℕ → Bool) → ((k : ℕ) → has None k ≡ false) →
    (w : Option Flight) (work : Flight) → Some work ≡ w → (k : ℕ) →
    has (Some work) k ≡ (has w k && not (has None k))
all_lost has free w work e k = ap (λ x. has x k) e ∙ all_out (has w k)
    ∙ ap (λ b. has w k && not b) (sym (free k))

-- no work waits for a call that is idle, also under an equal number
pub idle_there : (call : ℕ) (m : FlightMap) → ((n : List ℕ) → has_call (fin.get m n) call ≡ false) →
    (k : ℕ) → (call == k) ≡ true → (q : List ℕ) → has_call (fin.get m q) k ≡ false
idle_there call m idle k e q = ap (has_call (fin.get m q)) (sym (eqb-true call k e)) ∙ idle q
