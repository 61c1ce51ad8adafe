-- The numbers of unfinished work: of its operations, and of the calls that wait for it.
use Rattle.std.specs.Prelude.{◌≡◌, ◌↔◌, ◌==◌, ⊤, ℕ, Bool, true, false, List, [], ◌∷◌, Option, Some, None}
use Rattle.std.specs.List.{list_any}
use Rattle.std.specs.FinMap as fin
use Rattle.tier_types.specs.declared.flight.Flight.{Flight}
use Rattle.tier_types.specs.declared.flight.Flight.TheVariants as flight
use Rattle.tier_types.specs.declared.flight.ReadFlight.{ReadFlight}
use Rattle.tier_types.specs.Flights.{IsIn}
use Rattle.tier_flight.specs.Ends.{FlightMap, is_call}

-- one of the reads is this operation
abbrev pub reads_opid : ℕ → List ReadFlight → Bool
reads_opid k list = list_any (λ r. r.opid == k) list

-- one of the reads is this call's
abbrev pub reads_call : ℕ → List ReadFlight → Bool
reads_call k list = list_any (λ r. r.call == k) list

-- the number is one of this work's operations
abbrev pub has_opid : Option Flight → ℕ → Bool
has_opid None k = false
has_opid (Some (flight.Promote call opid gather ask)) k = opid == k
has_opid (Some (flight.Write driver owner opid req)) k = opid == k
has_opid (Some (flight.Reads list)) k = reads_opid k list
has_opid (Some (flight.Flush call opid seq blocking drain)) k = opid == k

-- the call of this number waits for this work
abbrev pub has_call : Option Flight → ℕ → Bool
has_call None k = false
has_call (Some (flight.Promote call opid gather ask)) k = call == k
has_call (Some (flight.Write driver owner opid req)) k = is_call k driver
has_call (Some (flight.Reads list)) k = reads_call k list
has_call (Some (flight.Flush call opid seq blocking drain)) k = is_call k call

-- what was found is the one name whose work has the number; nothing where no work has it
abbrev pub IsNameBy : (Option Flight → ℕ → Bool) → FlightMap → ℕ → Option (List ℕ) → Type 0
IsNameBy has flights k found = (n : List ℕ) → (found ≡ Some n) ↔ (has (fin.get flights n) k ≡ true)

-- no work has a number that this work has
abbrev pub IsNewBy : (Option Flight → ℕ → Bool) → FlightMap → Flight → Type 0
IsNewBy has flights work = (k : ℕ) → has (Some work) k ≡ true → (n : List ℕ) →
    has (fin.get flights n) k ≡ false

-- no work waits for this call
abbrev pub IsIdle : ℕ → FlightMap → Type 0
IsIdle call flights = (n : List ℕ) → has_call (fin.get flights n) call ≡ false

-- it is one operation: reads come one at a time
abbrev pub IsSingle : Flight → Type 0
IsSingle (flight.Promote call opid gather ask) = ⊤
IsSingle (flight.Write driver owner opid req) = ⊤
IsSingle (flight.Reads (r ∷ [])) = ⊤
IsSingle (flight.Reads list) = ⊥
IsSingle (flight.Flush call opid seq blocking drain) = ⊤

-- the call has one read at most
abbrev pub HasOneRead : ℕ → Option Flight → Type 0
HasOneRead call (Some (flight.Reads list)) =
    (r q : ReadFlight) → IsIn r list → IsIn q list → r.call ≡ call → q.call ≡ call → r ≡ q
HasOneRead call work = ⊤

-- each call has one read on a name at most
abbrev pub HaveOneRead : FlightMap → Type 0
HaveOneRead flights = (call : ℕ) (n : List ℕ) → HasOneRead call (fin.get flights n)
