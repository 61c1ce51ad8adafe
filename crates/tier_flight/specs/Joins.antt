-- How work comes to a name.
use Rattle.std.specs.Prelude.{◌≡◌, ⊤, List, ℕ, ◌++◌, Option, Some, None}
use Rattle.std.specs.FinMap as fin
use Rattle.tier_types.specs.declared.flight.Flight.{Flight}
use Rattle.tier_types.specs.declared.flight.Flight.TheVariants as flight
use Rattle.tier_flight.specs.Ends.{FlightMap}

-- Work may come to a name that has none, and reads to a name that has reads.
abbrev pub MayJoin : Option Flight → Flight → Type 0
MayJoin None new = ⊤
MayJoin (Some (flight.Reads list)) (flight.Reads more) = ⊤
MayJoin _ _ = ⊥

-- The work on a name to which this one came: reads go behind those that are there.
abbrev pub joined : Option Flight → Flight → Flight
joined (Some (flight.Reads list)) (flight.Reads more) = flight.Reads (list ++ more)
joined _ new = new

-- the name has the work that came to it; all other work stays
abbrev pub IsJoinedIn : List ℕ → Flight → FlightMap → FlightMap → Type 0
IsJoinedIn name new old after = after ≡ fin.insert old name (joined (fin.get old name) new)
