-- What a client asks.
use Rattle.std.specs.Prelude.{Bool, true, false}
use Rattle.tier_flight.specs.declared.busy.Want.{Want}
use Rattle.tier_flight.specs.declared.busy.Want.TheVariants as want
use Rattle.tier_types.specs.declared.flight.Ask.{Ask}

-- it is a write request
abbrev pub writes : Ask → Bool
writes (Ask.Write req) = true
writes (Ask.Read client name vector) = false

-- what it wants of the name before its way is chosen
abbrev pub want_of : Ask → Want
want_of (Ask.Write req) = want.Write
want_of (Ask.Read client name vector) = want.Read
