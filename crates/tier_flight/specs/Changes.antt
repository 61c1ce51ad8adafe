-- How standing work changes.
use Rattle.std.specs.Prelude.{◌≡◌, ⊤, ℕ, List, [], Option, Some, None, if◌then◌else◌}
use Rattle.std.specs.FinMap as fin
use Rattle.copy_chunk.specs.declared.chunk.Chunk.{Chunk}
use Rattle.copy_chunk.specs.declared.gather.Added.{Added}
use Rattle.copy_chunk.specs.Gathers.{Adds}
use Rattle.tier_types.specs.declared.flight.Flight.{Flight}
use Rattle.tier_types.specs.declared.flight.Flight.TheVariants as flight
use Rattle.tier_flight.specs.Ends.{FlightMap, left_at, put_left}
use Rattle.tier_flight.specs.Numbers.{has_call}

-- what the end of a call leaves of a name's work: of work that waits for it what is left of that,
-- and all other work
abbrev pub dropped_at : ℕ → Option Flight → Option Flight
dropped_at call work = if has_call work call then left_at call work else work

-- each name's work where a call has ended
abbrev pub IsDroppedIn : ℕ → FlightMap → FlightMap → Type 0
IsDroppedIn call old new = (n : List ℕ) → fin.get new n ≡ dropped_at call (fin.get old n)

-- work that no call waits for: a write request that is left, or a flush that was begun alone
abbrev pub IsUnheld : Option Flight → Type 0
IsUnheld (Some (flight.Write None owner opid req)) = ⊤
IsUnheld (Some (flight.Flush None opid seq blocking drain)) = ⊤
IsUnheld work = ⊥

-- the work, for which this call waits from now on
abbrev pub held_at : ℕ → Option Flight → Option Flight
held_at call (Some (flight.Write driver owner opid req)) =
    Some (flight.Write (Some call) owner opid req)
held_at call (Some (flight.Flush waiter opid seq blocking drain)) =
    Some (flight.Flush (Some call) opid seq blocking drain)
held_at call work = work

-- the call waits for the name's work; all other work stays
abbrev pub IsTakenIn : ℕ → List ℕ → FlightMap → FlightMap → Type 0
IsTakenIn call name old new = new ≡ put_left old name (held_at call (fin.get old name))

-- a promotion
abbrev pub IsPromote : Option Flight → Type 0
IsPromote (Some (flight.Promote call opid gather ask)) = ⊤
IsPromote work = ⊥

-- the chunks that came for a promotion
abbrev pub gathered : Option Flight → List Chunk
gathered (Some (flight.Promote call opid gather ask)) = gather
gathered work = []

-- the promotion with these chunks
abbrev pub fed_at : List Chunk → Option Flight → Option Flight
fed_at chunks (Some (flight.Promote call opid gather ask)) =
    Some (flight.Promote call opid chunks ask)
fed_at chunks work = work

-- a chunk came for the name's promotion, which did this with it; all other work stays
pub record IsFedIn (name : List ℕ) (chunk : Chunk) (added : Added) (old new : FlightMap) : Type 0
  where
    pub adds : Adds chunk (gathered (fin.get old name)) added (gathered (fin.get new name))
    pub stays : new ≡ put_left old name (fed_at (gathered (fin.get new name)) (fin.get old name))
