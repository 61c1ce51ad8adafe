-- What unfinished work on a name holds up.
use Rattle.std.specs.Prelude.{ℕ, Bool, true, false, List, [], ◌∷◌, Option, Some, None}
use Rattle.obj_model.specs.declared.tier.Kind.{Kind}
use Rattle.obj_model.specs.declared.tier.Kind.TheVariants as kind
use Rattle.tier_types.specs.declared.flight.Flight.{Flight}
use Rattle.tier_types.specs.declared.flight.Flight.TheVariants as flight
use Rattle.tier_types.specs.declared.flight.ReadFlight.{ReadFlight}
use Rattle.tier_flight.specs.declared.busy.Busy.{Busy}
use Rattle.tier_flight.specs.declared.busy.Want.{Want}
use Rattle.tier_flight.specs.declared.busy.Want.TheVariants as want

-- held up by work of this kind and number
abbrev pub by : Kind → ℕ → Option Busy
by kind opid = Some (record { kind = kind; opid = opid })

-- a write request that is with the base: while a call drives it all waits; one that is left is
-- taken over by the next client call
abbrev pub write_busy : Option ℕ → ℕ → Want → Option Busy
write_busy (Some call) opid w = by kind.Write opid
write_busy None opid want.Read = None
write_busy None opid want.PromoteRead = None
write_busy None opid want.Write = None
write_busy None opid want.Flush = by kind.Write opid
write_busy None opid want.Evict = by kind.Write opid

-- reads that are with the base: more may join; without a record there is nothing to flush or evict
abbrev pub read_busy : ℕ → Want → Option Busy
read_busy opid want.Read = None
read_busy opid want.PromoteRead = by kind.Read opid
read_busy opid want.Write = by kind.Read opid
read_busy opid want.Flush = None
read_busy opid want.Evict = None

-- a list of reads has the number of its oldest
abbrev pub reads_busy : List ReadFlight → Want → Option Busy
reads_busy [] w = None
reads_busy (r ∷ rs) w = read_busy r.opid w

-- a flush: reads are served meanwhile, and writes where it does not block
abbrev pub flush_busy : Bool → ℕ → Want → Option Busy
flush_busy blocking opid want.Read = None
flush_busy blocking opid want.PromoteRead = None
flush_busy true opid want.Write = by kind.Flush opid
flush_busy false opid want.Write = None
flush_busy blocking opid want.Flush = by kind.Flush opid
flush_busy blocking opid want.Evict = by kind.Flush opid

-- what this work holds up
abbrev pub busy_of : Flight → Want → Option Busy
busy_of (flight.Promote call opid gather ask) w = by kind.Promote opid
busy_of (flight.Write driver owner opid req) w = write_busy driver opid w
busy_of (flight.Reads list) w = reads_busy list w
busy_of (flight.Flush call opid seq blocking drain) w = flush_busy blocking opid w

-- what holds up a name, whose work this is if there is any
abbrev pub busy_at : Option Flight → Want → Option Busy
busy_at None w = None
busy_at (Some f) w = busy_of f w
