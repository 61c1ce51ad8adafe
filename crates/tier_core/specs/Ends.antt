-- How a call ends.
use Rattle.std.specs.Prelude.{◌≡◌, ◌≤◌, ℕ, length, Option, Some, None}
use Rattle.tier_calls.specs.Tables.{TableView}
use Rattle.tier_chron.specs.Logs.{Log, answered_log}
use Rattle.tier_chron.specs.declared.entries.Logged.{Logged}
use Rattle.tier_flight.specs.Changes.{IsDroppedIn}
use Rattle.tier_flight.specs.Ends.{FlightMap}
use Rattle.tier_flight.specs.Numbers.{HaveOneRead, IsNameBy, has_call}
use Rattle.tier_protocol.specs.Tiers.{Name}
use Rattle.tier_traffic.specs.Wires.{WiresView, carrying}
use Rattle.tier_view.specs.Answers.{MayEnd, dropped_on, ended_call, ended_calls, gone_some}
use Rattle.tier_view.specs.Changes.{unawaited, unnoted}
use Rattle.tier_view.specs.Views.{GroupView}

-- the number of the work that goes when a call ends: of the work that the call waits for
pub record GoesWith (call : ℕ) (flights : FlightMap) (dropped : Option ℕ) : Type 0 where
  pub found : Option Name
  pub named : IsNameBy has_call flights call found
  pub is : dropped ≡ dropped_on call flights found

-- there is memory for an answer, if there is one
abbrev pub MayPush : Option Logged → (spare : ℕ) → Type 0
MayPush None spare = Unit {0}
MayPush (Some l) spare = 1 ≤ spare

-- the table of calls where this work has gone
abbrev pub calls_gone : (now : ℕ) → (dropped : Option ℕ) → TableView → TableView
calls_gone now dropped t =
    record t { calls = record t.calls { flown = gone_some now dropped t.calls.flown } }

-- the table of calls where a call is over, and this work of it has gone
abbrev pub calls_ended : (now call : ℕ) → (dropped : Option ℕ) → TableView → TableView
calls_ended now call dropped t = record t { calls = ended_calls now call dropped t.calls }

-- what is between the pools where this is left of the work, and the call awaits and notes nothing
abbrev pub wires_ended : (call : ℕ) → FlightMap → WiresView → WiresView
wires_ended call flights w = carrying (record w.traffic {
  flights = flights;
  awaited = unawaited call w.traffic.awaited;
  noted = unnoted call w.traffic.noted;
}) w

-- a call has ended with this answer, in the history and in the tables
pub record EndsParts (l : Logged) (log after : Log) (t u : TableView) (w x : WiresView) : Type 0
  where
    pub dropped : Option ℕ
    pub logged : after ≡ answered_log l log
    pub goes : GoesWith l.call w.traffic.flights dropped
    pub reads : HaveOneRead w.traffic.flights
    pub left : IsDroppedIn l.call w.traffic.flights x.traffic.flights
    pub calls : u ≡ calls_ended (length log.answers) l.call dropped t
    pub wires : x ≡ wires_ended l.call x.traffic.flights w

-- A call has ended, with this answer or without one: its work is dropped or left, and the number of
-- what it dropped has gone from the table of work.
pub record IsEnded (call : ℕ) (answer : Option Logged) (old new : GroupView) : Type 0 where
  pub dropped : Option ℕ
  pub goes : GoesWith call old.traffic.flights dropped
  pub left : IsDroppedIn call old.traffic.flights new.traffic.flights
  pub is : new ≡ ended_call call answer new.traffic.flights dropped old

-- the call of this answer may end with it, whatever work of the call is dropped
abbrev pub MayAnswer : GroupView → Logged → Type 0
MayAnswer v l =
    (dropped : Option ℕ)
    → MayEnd v (ended_calls (length v.log.answers) l.call dropped v.calls) l.call (Some l)
