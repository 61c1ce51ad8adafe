-- What is left of unfinished work when a call ends.
use Rattle.std.specs.Prelude.{◌≡◌, ℕ, Bool, false, List, [], ◌∷◌, Option, Some, None, not, ◌==◌, filter, if◌then◌else◌}
use Rattle.std.specs.FinMap as fin
use Rattle.obj_model.specs.Names.{name_cmp}
use Rattle.tier_types.specs.declared.flight.Flight.{Flight}
use Rattle.tier_types.specs.declared.flight.Flight.TheVariants as flight
use Rattle.tier_types.specs.declared.flight.ReadFlight.{ReadFlight}

-- each name's work
abbrev pub FlightMap : Type 0
FlightMap = fin.FinMap name_cmp Flight

-- it is this call
abbrev pub is_call : ℕ → Option ℕ → Bool
is_call call None = false
is_call call (Some other) = other == call

-- the call, unless it is the one that ends
abbrev pub without_call : ℕ → Option ℕ → Option ℕ
without_call call other = if is_call call other then None else other

-- it is another call's read
abbrev pub is_other : ℕ → ReadFlight → Bool
is_other call r = not (r.call == call)

-- the reads of other calls
abbrev pub others_of : ℕ → List ReadFlight → List ReadFlight
others_of call list = filter (is_other call) list

-- reads, if there are any
abbrev pub reads_left : List ReadFlight → Option Flight
reads_left [] = None
reads_left (r ∷ rs) = Some (flight.Reads (r ∷ rs))

-- What is left of work when a call ends: its promotion, its reads and its flush are dropped, and
-- its write request goes on without a driver. A flush that was begun alone is no call's.
abbrev pub left_of : ℕ → Flight → Option Flight
left_of call (flight.Promote c opid gather ask) =
    if c == call then None else Some (flight.Promote c opid gather ask)
left_of call (flight.Write driver owner opid req) =
    Some (flight.Write (without_call call driver) owner opid req)
left_of call (flight.Reads list) = reads_left (others_of call list)
left_of call (flight.Flush c opid seq blocking drain) =
    if is_call call c then None else Some (flight.Flush c opid seq blocking drain)

-- what is left of a name's work, if there is any
abbrev pub left_at : ℕ → Option Flight → Option Flight
left_at call None = None
left_at call (Some f) = left_of call f

-- the work on each name where this is what is left of one name's
abbrev pub put_left : FlightMap → List ℕ → Option Flight → FlightMap
put_left flights name None = fin.remove flights name
put_left flights name (Some f) = fin.insert flights name f

-- of one name's work is left what the end of the call leaves; all other work stays
abbrev pub IsLeftIn : ℕ → List ℕ → FlightMap → FlightMap → Type 0
IsLeftIn call name old new = new ≡ put_left old name (left_at call (fin.get old name))
