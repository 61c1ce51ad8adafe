-- A client's call is turned away.
use Rattle.std.proofs.Common.{◌≡◌, ℕ, true, false, Option, Some, None, refl}
use Rattle.std.specs.FinMap as fin
use Rattle.obj_model.specs.declared.tier.Kind.TheVariants as kind
use Rattle.tier_chron.specs.Shapes.{may_go}
use Rattle.tier_chron.specs.declared.answer.Answer.TheVariants as answer
use Rattle.tier_core.specs.Blocks.{Blocks, IsHeldUp, MayWant, Wants}
use Rattle.tier_core.specs.Serves.{asked_of}
use Rattle.tier_core.specs.declared.turns.Turn.{Turn}
use Rattle.tier_flight.specs.Busy.{busy_at}
use Rattle.tier_flight.specs.declared.busy.Busy.{Busy}
use Rattle.tier_moves.specs.Asks.{want_of, writes}
use Rattle.tier_moves.specs.Begins.{IsEnteredNow, IsTurnedAway}
use Rattle.tier_moves.specs.declared.begun.Begun.TheVariants.{Answered}
use Rattle.tier_moves.specs.Stands.{stand_of}
use Rattle.tier_moves.specs.declared.standing.Stand.TheVariants.{HeldUp}
use Rattle.tier_types.specs.Flights.{name_asked}
use Rattle.tier_types.specs.declared.flight.Flight.{Flight}
use Rattle.tier_types.specs.declared.flight.Ask.{Ask}
use Rattle.tier_view.specs.Views.{GroupView}

goes : (ask : Ask) (op : ℕ) → may_go (asked_of ask) (answer.Blocked kind.Read op) None ≡ true
goes (Ask.Write req) op = refl
goes (Ask.Read client name vector) op = refl

wants : (ask : Ask) → Wants (asked_of ask) (name_asked ask) (want_of ask)
wants (Ask.Write req) = refl
wants (Ask.Read client name vector) = refl

-- what a call that was entered just now may want
pub may_want : (v : GroupView) (turn : Turn) (ask : Ask) → IsEnteredNow v turn ask
    → MayWant v turn (name_asked ask) (want_of ask) None
may_want v turn ask h = record {
  settled = h.ready.settled;
  asked = asked_of ask;
  turn_is = h.turn_is;
  wants = wants ask;
  goes = goes ask;
}

-- ---- what holds it up

pub record IsBusy (f : Option Flight) (ask : Ask) : Type 0 where
  pub busy : Busy
  pub is : busy_at f (want_of ask) ≡ Some busy

busy_by : (f : Option Flight) (ask : Ask) → stand_of f (writes ask) ≡ HeldUp → IsBusy f ask
busy_by None ask h = absurd (cc)
busy_by (Some (Flight.Promote call op gather asked)) ask h =
    record { busy = record { kind = kind.Promote; opid = op }; is = refl }
busy_by (Some (Flight.Write (Some driver) owner op req)) ask h =
    record { busy = record { kind = kind.Write; opid = op }; is = refl }
busy_by (Some (Flight.Write None owner op req)) ask h = absurd (cc)
busy_by (Some (Flight.Reads list)) (Ask.Write req) h = absurd (cc)
busy_by (Some (Flight.Reads list)) (Ask.Read client name vector) h = absurd (cc)
busy_by (Some (Flight.Flush call op seq true drain)) (Ask.Write req) h =
    record { busy = record { kind = kind.Flush; opid = op }; is = refl }
busy_by (Some (Flight.Flush call op seq false drain)) (Ask.Write req) h = absurd (cc)
busy_by (Some (Flight.Flush call op seq true drain)) (Ask.Read client name vector) h =
    absurd (cc)
busy_by (Some (Flight.Flush call op seq false drain)) (Ask.Read client name vector) h =
    absurd (cc)

-- so it is held up
pub is_held_up : (v : GroupView) (turn : Turn) (ask : Ask) → IsEnteredNow v turn ask
    → stand_of (fin.get v.traffic.flights (name_asked ask)) (writes ask) ≡ HeldUp
    → (b : Busy) × IsHeldUp v.log v.calls v.traffic turn.call (name_asked ask) (want_of ask) b
is_held_up v turn ask h held =
    let k = busy_by (fin.get v.traffic.flights (name_asked ask)) ask held in
    (k.busy, record { busy = k.is; other = h.fresh.other k.busy.opid; fresh = h.fresh.fresh })

-- the call was answered so, where something is told
pub turned_away : (v w : GroupView) (turn : Turn) (ask : Ask) (told : Option Busy) (b : Busy)
    → told ≡ Some b → Blocks turn (name_asked ask) (want_of ask) None v w told
    → IsTurnedAway turn ask v w (Answered turn.call)
turned_away v w turn ask (Some busy) b is h = record {
  busy = busy;
  held = h.0.busy;
  ends = record { told_is = refl; ended = h.1 };
}
turned_away v w turn ask None b is h = absurd (cc)
