-- How a call is turned away by work on the name that it asked for.
use Rattle.std.specs.Prelude.{◌≡◌, ◌≢◌, ℕ, true, false, List, length, Option, Some, None}
use Rattle.std.specs.FinMap as fin
use Rattle.std.specs.List.{list_any}
use Rattle.obj_model.specs.declared.tier.Kind.{Kind}
use Rattle.obj_model.specs.declared.tier.Kind.TheVariants as kind
use Rattle.obj_model.specs.declared.tier.Path.{Path}
use Rattle.tier_chron.specs.Laws.{MayStillAct}
use Rattle.tier_chron.specs.Logs.{Log}
use Rattle.tier_chron.specs.Shapes.{may_go}
use Rattle.tier_chron.specs.declared.answer.Answer.TheVariants as answer
use Rattle.tier_chron.specs.declared.asked.Asked.{Asked}
use Rattle.tier_chron.specs.declared.asked.Asked.TheVariants.{Write, Read, Flush, Evict}
use Rattle.tier_chron.specs.declared.entries.Logged.{Logged}
use Rattle.tier_calls.specs.Tables.{TableView}
use Rattle.tier_calls.specs.Turns.{StandsAs}
use Rattle.tier_core.specs.Ends.{EndsParts, IsEnded}
use Rattle.tier_core.specs.Turns.{IsTurn}
use Rattle.tier_core.specs.declared.turns.Turn.{Turn}
use Rattle.tier_flight.specs.Busy.{busy_at}
use Rattle.tier_flight.specs.Numbers.{IsIdle}
use Rattle.tier_flight.specs.declared.busy.Busy.{Busy}
use Rattle.tier_flight.specs.declared.busy.Want.{Want}
use Rattle.tier_flight.specs.declared.busy.Want.TheVariants as want
use Rattle.tier_protocol.specs.Tiers.{Flights, IsIn, Name}
use Rattle.tier_traffic.specs.Messages.{is_owned}
use Rattle.tier_traffic.specs.Wires.{WiresView}
use Rattle.tier_view.specs.Calls.{Calls}
use Rattle.tier_view.specs.declared.parts.Flown.{Flown}
use Rattle.tier_view.specs.Traffic.{Traffic}
use Rattle.tier_view.specs.Views.{GroupView}

-- ---- what a call wants

-- a call that asked this wants this of the name
abbrev pub Wants : Asked → Name → Want → Type 0
Wants (Write r) name want.Write = r.name ≡ name
Wants (Read client n vector) name want.Read = n ≡ name
Wants (Read client n vector) name want.PromoteRead = n ≡ name
Wants (Flush n blocking begin_only) name want.Flush = n ≡ name
Wants (Evict n) name want.Evict = n ≡ name
Wants asked name w = ⊥

-- work turns a call away before its way is chosen, but for reads at the base
abbrev pub told_way : Kind → Option Path → Option Path
told_way kind.Read way = way
told_way other way = None

-- the call of this turn wants this of the name, on this way if one is chosen
pub record MayWant (v : GroupView) (turn : Turn) (name : Name) (w : Want) (way : Option Path)
    : Type 0 where
  pub settled : v.stores.pending ≡ None
  pub asked : Asked
  pub turn_is : IsTurn v turn asked
  pub wants : Wants asked name w
  pub goes : (op : ℕ) → may_go asked (answer.Blocked kind.Read op) way ≡ true

-- ---- what holds it up

-- the work of this operation is not this call's, where it stands
abbrev pub StandsOther : (call opid : ℕ) → List Flown → Type 0
StandsOther call opid flown = (f : Flown) → IsIn f flown → StandsAs opid f → f.call ≢ call

-- The call began nothing yet: no work waits for it, and no message is its own; it has no act, and
-- was answered nothing but faults.
pub record IsFresh (log : Log) (traffic : Traffic) (call : ℕ) : Type 0 where
  pub idle : IsIdle call traffic.flights
  pub silent : list_any (is_owned call) traffic.messages ≡ false
  pub may : MayStillAct call log

-- this work on the name, which is another's, holds the call up, which began nothing yet
pub record IsHeldUp (log : Log) (calls : Calls) (traffic : Traffic) (call : ℕ) (name : Name)
    (w : Want) (b : Busy) : Type 0 where
  pub busy : busy_at (fin.get traffic.flights name) w ≡ Some b
  pub other : StandsOther call b.opid calls.flown
  pub fresh : IsFresh log traffic call

-- it tells what holds the call up, or that nothing does
abbrev pub TellsHeld : Log → Calls → Traffic → (call : ℕ) → Name → Want → Option Busy → Type 0
TellsHeld log calls traffic call name w (Some b) = IsHeldUp log calls traffic call name w b
TellsHeld log calls traffic call name w None =
    (b : Busy) → IsHeldUp log calls traffic call name w b → ⊥

-- ---- how it is answered

abbrev pub blocked_here : Turn → (acts : ℕ) → Busy → Option Path → Logged
blocked_here turn acts b way = record {
  call = turn.call;
  line = turn.line;
  begin = turn.begin;
  place = acts;
  end = acts;
  path = told_way b.kind way;
  answer = answer.Blocked b.kind b.opid;
}

-- the same in the parts
abbrev pub BlocksParts : Turn → Option Path → Option Busy → (log after : Log) → (t u : TableView)
    → (w x : WiresView) → Type 0
BlocksParts turn way (Some b) log after t u w x =
    EndsParts (blocked_here turn (length log.acts) b way) log after t u w x
BlocksParts turn way None log after t u w x = (after ≡ log) × (u ≡ t) × (x ≡ w)

-- it was answered with what holds it up, and is over; or nothing holds it up, and nothing changed
abbrev pub Blocks : Turn → Name → Want → Option Path → (old new : GroupView) → Option Busy
    → Type 0
Blocks turn name w way old new (Some b) =
    IsHeldUp old.log old.calls old.traffic turn.call name w b
    × IsEnded turn.call (Some (blocked_here turn (length old.log.acts) b way)) old new
Blocks turn name w way old new None =
    (new ≡ old) × TellsHeld old.log old.calls old.traffic turn.call name w None
