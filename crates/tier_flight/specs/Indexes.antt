-- The index from numbers to names, and how it changes.
use Rattle.std.specs.Prelude.{◌≡◌, ◌==◌, ◌&&◌, ℕ, Bool, cond, not, nat_eq, List, Option, Some, None}
use Rattle.std.specs.List.{list_any}
use Rattle.std.specs.HashMap.{get}
use Rattle.tier_types.specs.declared.flight.Flight.{Flight}
use Rattle.tier_types.specs.declared.flight.ReadFlight.{ReadFlight}
use Rattle.tier_flight.specs.declared.index.Index.{Index}
use Rattle.tier_flight.specs.Ends.{FlightMap, is_other, left_at}
use Rattle.tier_flight.specs.Numbers.{IsNameBy, has_opid, has_call}

-- the name of a number
abbrev pub name_in : Index → ℕ → Option (List ℕ)
name_in index k = get nat_eq index.names k

-- the index has the name of each number that work has, and no other number
abbrev pub IsIndexBy : (Option Flight → ℕ → Bool) → Index → FlightMap → Type 0
IsIndexBy has index flights = (k : ℕ) → IsNameBy has flights k (name_in index k)

-- the indexes of operations and of calls
pub record IsIndexed (opids calls : Index) (flights : FlightMap) : Type 0 where
  pub opid : IsIndexBy has_opid opids flights
  pub call : IsIndexBy has_call calls flights

-- the same names
abbrev pub IsSameIndex : Index → Index → Type 0
IsSameIndex old new = (k : ℕ) → name_in new k ≡ name_in old k

-- the numbers that pass the test have this name
abbrev pub AreEntered : (ℕ → Bool) → List ℕ → Index → Index → Type 0
AreEntered test name old new = (k : ℕ) → name_in new k ≡ cond (test k) (Some name) (name_in old k)

-- the numbers that pass the test have no name
abbrev pub AreForgotten : (ℕ → Bool) → Index → Index → Type 0
AreForgotten test old new = (k : ℕ) → name_in new k ≡ cond (test k) None (name_in old k)

-- the number is one of the work's operations, and the end of the call ends it
abbrev pub ends_opid : ℕ → Option Flight → ℕ → Bool
ends_opid call work k = has_opid work k && not (has_opid (left_at call work) k)

-- the number is another call's read
abbrev pub other_opid : ℕ → List ReadFlight → ℕ → Bool
other_opid call all k = list_any (λ r. is_other call r && (r.opid == k)) all

-- one of these reads is the call's and this operation, which none of another call among all reads
-- is
abbrev pub ends_reads : ℕ → List ReadFlight → List ReadFlight → ℕ → Bool
ends_reads call all some k =
    list_any (λ r. (r.call == call) && ((r.opid == k) && not (other_opid call all r.opid))) some
