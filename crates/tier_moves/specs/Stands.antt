-- What the work on a name means for a client's call.
use Rattle.std.specs.Prelude.{ℕ, Bool, true, false, Option, Some, None}
use Rattle.tier_core.specs.Blocks.{IsFresh, StandsOther}
use Rattle.tier_moves.specs.declared.standing.Stand.{Stand}
use Rattle.tier_moves.specs.declared.standing.Stand.TheVariants.{Clear, HeldUp, Left, Behind}
use Rattle.tier_types.specs.declared.flight.Flight.{Flight}
use Rattle.tier_view.specs.Views.{GroupView}

-- by the work, if there is any, and by whether the call writes
abbrev pub stand_of : Option Flight → (writes : Bool) → Stand
stand_of None writes = Clear
stand_of (Some (Flight.Promote call op gather ask)) writes = HeldUp
stand_of (Some (Flight.Write (Some driver) owner op req)) writes = HeldUp
stand_of (Some (Flight.Write None owner op req)) writes = Left
stand_of (Some (Flight.Reads list)) true = Behind
stand_of (Some (Flight.Reads list)) false = Clear
stand_of (Some (Flight.Flush call op seq true drain)) true = HeldUp
stand_of (Some (Flight.Flush call op seq blocking drain)) writes = Clear

-- the call began nothing yet, and no work that stands is its own
pub record IsFreshOn (v : GroupView) (call : ℕ) : Type 0 where
  pub fresh : IsFresh v.log v.traffic call
  pub other : (op : ℕ) → StandsOther call op v.calls.flown
