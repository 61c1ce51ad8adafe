-- What the laws say.
use Rattle.std.specs.Prelude.{◌≡◌, ◌↔◌, ℕ, true, Option}
use Rattle.tier_types.specs.Flights.{HasOpid, IsLeftOf}
use Rattle.tier_types.specs.declared.flight.Flight.{Flight}
use Rattle.tier_flight.specs.Changes.{IsUnheld, dropped_at, held_at}
use Rattle.tier_flight.specs.Numbers.{has_opid}

-- work has a number exactly where the number is one of its operations
abbrev pub OpidsAreTested : Type 0
OpidsAreTested = (work : Option Flight) (opid : ℕ) → (has_opid work opid ≡ true) ↔ HasOpid work opid

-- what the end of a call leaves is left of the work
abbrev pub EndsLeave : Type 0
EndsLeave = (call : ℕ) (work : Option Flight) → IsLeftOf work (dropped_at call work)

-- work that a call takes over is left of what stood
abbrev pub TakingLeaves : Type 0
TakingLeaves = (call : ℕ) (work : Option Flight) → IsUnheld work → IsLeftOf work (held_at call work)
