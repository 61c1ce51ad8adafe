-- A call ends.
use Rattle.std.proofs.Common.{◌≡◌, inl, ◌+◌, ◌==◌, ℕ, Bool, true, false, if◌then◌else◌, List, [], ◌∷◌, length, Option, Some, None, refl, sym, ap, subst, ◌∙◌}
use Rattle.std.specs.Prelude.{Result, Ok, Err, OnOk}
use Rattle.std.proofs.lemmas.List.{length-map}
use Rattle.std.specs.List.{AllByRecursion}
use Rattle.base_pool.specs.Views.{BaseView}
use Rattle.tier_calls.specs.Tables.{TableView}
use Rattle.tier_chron.specs.Calls.{call_of}
use Rattle.tier_chron.specs.Laws.{MayLog}
use Rattle.tier_chron.specs.Logs.{Log}
use Rattle.tier_chron.specs.Shapes.{is_fault}
use Rattle.tier_chron.specs.declared.entries.Logged.{Logged}
use Rattle.tier_flight.specs.Changes.{IsDroppedIn}
use Rattle.tier_flight.specs.Numbers.{HaveOneRead}
use Rattle.tier_protocol.specs.Tiers.{Flights}
use Rattle.tier_traffic.specs.Wires.{WiresView}
use Rattle.tier_view.specs.Answered.{HasFaultCause}
use Rattle.tier_view.specs.Answers.{DropsWork, KeepsQuietly, MayEnd, ended_call, ended_calls, gone_some, told_log}
use Rattle.tier_view.specs.declared.parts.Entry.{Entry}
use Rattle.tier_view.specs.declared.parts.Flown.{Flown}
use Rattle.tier_view.specs.Changes.{ended_in}
use Rattle.tier_view.specs.Stops.{gone_at}
use Rattle.tier_view.specs.Stores.{Stores}
use Rattle.tier_view.specs.Views.{GroupView, calls_in}
use Rattle.tier_view.specs.Whole.{IsWhole}
use Rattle.tier_view.proofs.AnsweringDrops.{one_work_is_dropped}
use Rattle.tier_view.proofs.AnsweringEnds.{ending_calls_keeps}
use Rattle.tier_view.proofs.AnsweringFaults.{counted_with, fault_cause, fault_true}
use Rattle.tier_core.specs.Ends.{GoesWith, IsEnded, MayAnswer, calls_ended, wires_ended}
use Rattle.tier_core.specs.Keeps.{IsKept, MayBeAsked}
use Rattle.tier_core.specs.Parts.{group_of}
use Rattle.tier_core.specs.declared.parts.Agent.{Agent}
use Rattle.tier_core.specs.declared.parts.Start.{Start}

-- what holds behind a success holds whatever came
pub on_ok : {X E : Type 0} (result : Result X E) (P : Type 0) → P → OnOk result P
on_ok (Ok x) P h = h
on_ok (Err e) P h = tt

-- ---- the tables

-- what was asked stays
asked_still : (call : ℕ) (es : List Entry) → AllByRecursion (λ (e : Entry). MayBeAsked e.asked) es → AllByRecursion (λ (e : Entry). MayBeAsked e.asked) (ended_in call es)
asked_still call [] h = tt
asked_still call (e ∷ es) h = (by (e.number == call), asked_still call es h.1)
  where
    by : (b : Bool) → (λ (x : Entry). MayBeAsked x.asked) (if b then record e { ended = true } else e)
    by true = h.0
    by false = h.0

-- as much work has come
as_many : (now : ℕ) (o : Option ℕ) (fs : List Flown) → length (gone_some now o fs) ≡ length fs
as_many now None fs = refl
as_many now (Some op) fs = length-map fs (λ (f : Flown). if f.opid == op then gone_at now f else f)

-- ---- the parts, and the group

module _ (stores : Stores) (log after : Log) (t u : TableView) (w x : WiresView) (start : Start) (agent : Agent) (call : ℕ) (answer : Option Logged) (dropped : Option ℕ) where
  -- what the parts make is the group where the call has ended
  pub ended_is : after ≡ told_log answer log → u ≡ calls_ended (length log.answers) call dropped t → x ≡ wires_ended call x.traffic.flights w
      → group_of stores after u.calls x.traffic start agent ≡ ended_call call answer x.traffic.flights dropped (group_of stores log t.calls w.traffic start agent)
  ended_is logged ended left =
      ap (λ (l : Log). group_of stores l u.calls x.traffic start agent) logged
      ∙ ap (λ (v : TableView). group_of stores (told_log answer log) v.calls x.traffic start agent) ended
      ∙ ap (λ (y : WiresView). group_of stores (told_log answer log) (calls_ended (length log.answers) call dropped t).calls y.traffic start agent) left

module _ (v : GroupView) (base : BaseView) (old new : TableView) (call : ℕ) (answer : Option Logged) (flights : Flights) (dropped : Option ℕ) where
  abbrev W : GroupView
  W = ended_call call answer flights dropped v

  pub ended_kept : IsKept v base old → IsWhole W → new.earlier ≡ old.earlier → IsKept W base new
  ended_kept h whole earlier = record {
    whole = whole;
    cached = h.cached;
    based = h.based;
    level = h.level;
    counted = subst (λ n. v.standing.next_opid + n ≡ length (gone_some (length v.log.answers) dropped v.calls.flown) + 1) (sym earlier)
        (subst (λ n. v.standing.next_opid + old.earlier ≡ n + 1) (sym (as_many (length v.log.answers) dropped v.calls.flown)) h.counted);
    messages = h.messages;
    asked = asked_still call v.calls.entries h.asked;
  }

-- ---- the step

module _ (v : GroupView) (call : ℕ) (flights : Flights) (dropped : Option ℕ) (whole : IsWhole v)
    (reads : HaveOneRead v.traffic.flights) (goes : GoesWith call v.traffic.flights dropped) (left : IsDroppedIn call v.traffic.flights flights) where
  drops : DropsWork call v.traffic.flights flights dropped
  drops = subst (DropsWork call v.traffic.flights flights) (sym goes.is) (one_work_is_dropped v call goes.found flights whole goes.named (reads call) left)

  pub answered_quietly : (l : Logged) → MayEnd v (ended_calls (length v.log.answers) call dropped v.calls) call (Some l)
      → KeepsQuietly v (ended_call call (Some l) flights dropped v)
  answered_quietly l may = ending_calls_keeps v call (Some l) flights dropped whole drops may

  pub dropped_quietly : KeepsQuietly v (ended_call call None flights dropped v)
  dropped_quietly = ending_calls_keeps v call None flights dropped whole drops tt

-- what a fault of a call asks
pub record IsFault (v : GroupView) (l : Logged) : Type 0 where
  pub may : MayLog (calls_in v.calls.entries) v.log l
  pub fault : is_fault l.answer ≡ true
  pub cause : HasFaultCause v l l.answer

-- so it may be answered
pub fault_may : (v : GroupView) (l : Logged) → IsWhole v → IsFault v l → MayAnswer v l
fault_may v l whole is = λ dropped. (
  record {
    own = refl;
    may = is.may;
    cause = fault_cause v l whole (length v.log.answers) dropped l.answer is.fault is.cause;
    counted = counted_with v l whole is.cause;
  },
  record { tells = λ start tell b. fault_true start v.log.acts l (call_of (calls_in v.calls.entries) l.call) is.fault is.may.answered; good = inl is.fault },
)

-- ---- all of it, for the parts

module _ (stores : Stores) (log after : Log) (t u : TableView) (w x : WiresView) (start : Start) (agent : Agent) (base : BaseView) (call : ℕ) (answer : Option Logged) (dropped : Option ℕ) where
  abbrev Old : GroupView
  Old = group_of stores log t.calls w.traffic start agent

  abbrev New : GroupView
  New = group_of stores after u.calls x.traffic start agent

  module _ (logged : after ≡ told_log answer log) (ended : u ≡ calls_ended (length log.answers) call dropped t) (left : x ≡ wires_ended call x.traffic.flights w) where
    same : New ≡ ended_call call answer x.traffic.flights dropped Old
    same = ended_is stores log after t u w x start agent call answer dropped logged ended left

    pub end_kept : IsKept Old base t → KeepsQuietly Old (ended_call call answer x.traffic.flights dropped Old) → IsKept New base u
    end_kept h quiet =
        subst (λ (v : GroupView). IsKept v base u) (sym same)
        (ended_kept Old base t u call answer x.traffic.flights dropped h quiet.0 (ap (λ (v : TableView). v.earlier) ended))

    pub end_step : KeepsQuietly Old (ended_call call answer x.traffic.flights dropped Old) → KeepsQuietly Old New
    end_step quiet = subst (KeepsQuietly Old) (sym same) quiet

    pub end_is : GoesWith call w.traffic.flights dropped → IsDroppedIn call w.traffic.flights x.traffic.flights → IsEnded call answer Old New
    end_is goes dropped_in = record { dropped = dropped; goes = goes; left = dropped_in; is = same }
