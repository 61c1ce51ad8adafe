-- Write requests that are under way, and how many of them are left.
use Rattle.std.specs.Prelude.{◌≡◌, ◌+◌, ◌<◌, ◌^◌, ℕ, Bool, true, false, List, Option, Some, None}
use Rattle.std.specs.List.{count_by}
use Rattle.std.specs.FinMap as fin
use Rattle.tier_flight.specs.Ends.{FlightMap}
use Rattle.tier_flight.specs.Numbers.{IsNameBy, has_call}
use Rattle.tier_types.specs.declared.flight.Flight.{Flight}
use Rattle.tier_types.specs.declared.flight.Flight.TheVariants as flight

-- a write request that no call waits for
abbrev pub is_left : Flight → Bool
is_left (flight.Write None owner opid req) = true
is_left (flight.Write (Some call) owner opid req) = false
is_left (flight.Promote call opid gather ask) = false
is_left (flight.Reads list) = false
is_left (flight.Flush call opid seq blocking drain) = false

-- a write request that a call waits for
abbrev pub is_driven : Flight → Bool
is_driven (flight.Write None owner opid req) = false
is_driven (flight.Write (Some call) owner opid req) = true
is_driven (flight.Promote call opid gather ask) = false
is_driven (flight.Reads list) = false
is_driven (flight.Flush call opid seq blocking drain) = false

-- the work on a name, if there is any, passes the test
abbrev pub passes : (Flight → Bool) → Option Flight → Bool
passes test None = false
passes test (Some f) = test f

-- how many works pass the test
abbrev pub works_by : (Flight → Bool) → FlightMap → ℕ
works_by test flights = count_by (λ e. test e.1) (fin.entries flights)

-- how many write requests are left
abbrev pub left_writes : FlightMap → ℕ
left_writes flights = works_by is_left flights

-- these are the counts of the write requests
pub record AreCounted (driven left : ℕ) (flights : FlightMap) : Type 0 where
  pub driven_is : driven ≡ works_by is_driven flights
  pub left_is : left ≡ left_writes flights
  pub few : driven + left < 2 ^ 64

-- the work on the name that was found is a write request that a call waits for
abbrev pub drives_on : FlightMap → Option (List ℕ) → Bool
drives_on flights None = false
drives_on flights (Some n) = passes is_driven (fin.get flights n)

-- whether the call waits for a write request
pub record Drives (call : ℕ) (flights : FlightMap) (result : Bool) : Type 0 where
  pub found : Option (List ℕ)
  pub named : IsNameBy has_call flights call found
  pub is : result ≡ drives_on flights found
