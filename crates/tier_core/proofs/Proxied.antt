-- A write request goes to the base.
use Rattle.std.proofs.Common.{◌≡◌, ◌↔◌, ◌<◌, ◌⊎◌, inl, inr, ℕ, ◌+◌, ◌==◌, Bool, true, false, true≢false, List, [], ◌∷◌, ◌++◌, cond, length, Option, Some, None, refl, sym, ap, subst, ◌∙◌, arith}
use Rattle.std.specs.Prelude.{Result, Ok, Err, OnErr, OnOk}
use Rattle.std.specs.FinMap as fin
use Rattle.std.specs.List.{AllByRecursion}
use Rattle.std.specs.Ordering.{nat_cmp}
use Rattle.std.proofs.lemmas.Bool.{eqb-true}
use Rattle.std.proofs.lemmas.List.{length_push}
use Rattle.base_pool.specs.Views.{BaseView}
use Rattle.obj_model.specs.declared.req.Req.{Req}
use Rattle.tier_calls.specs.Tables.{TableView}
use Rattle.tier_chron.proofs.Lists.{either_way}
use Rattle.tier_chron.specs.Logs.{Log}
use Rattle.tier_chron.specs.declared.asked.Asked.{Asked}
use Rattle.tier_chron.specs.declared.asked.Asked.TheVariants.{Write}
use Rattle.tier_flight.proofs.WorkLaws.{opids_are_tested}
use Rattle.tier_flight.specs.Numbers.{IsIdle, IsNewBy, has_call, has_opid}
use Rattle.tier_join.specs.Promises.{as_it_is}
use Rattle.tier_join.specs.Steps.{with_doubt}
use Rattle.tier_protocol.proofs.Cells.{get_here}
use Rattle.tier_protocol.specs.Tiers.{Flight, Flights, Name}
use Rattle.tier_traffic.proofs.Places.{all_placed}
use Rattle.tier_traffic.specs.Wires.{WiresView}
use Rattle.tier_types.specs.Flights.{HasOpid}
use Rattle.tier_view.proofs.Answering.{leaving_is_quiet, quiets_join, steps_join_quiet}
use Rattle.tier_view.proofs.AnsweringFaults.{call_found, one_entry}
use Rattle.tier_view.proofs.Beginning.{beginning_writes_keeps, sending_writes_keeps}
use Rattle.tier_view.proofs.Resting.{rests_promises}
use Rattle.tier_view.proofs.StartingRests.{rests_keeps}
use Rattle.tier_view.specs.Answers.{KeepsQuietly, LeavesAll}
use Rattle.tier_view.specs.Calls.{Calls, IsGoing, IsInFlight, entry_of}
use Rattle.tier_view.specs.declared.parts.Entry.{Entry}
use Rattle.tier_view.specs.Changes.{with_flown}
use Rattle.tier_view.specs.Laws.{HasAsked, Keeps}
use Rattle.tier_view.specs.Standing.{Standing}
use Rattle.tier_view.specs.Steps.{begun_write, write_flown}
use Rattle.tier_view.specs.Stores.{Stores, doubt_in}
use Rattle.tier_view.specs.Traffic.{Traffic}
use Rattle.tier_view.specs.declared.parts.Awaited.{Awaited}
use Rattle.tier_view.specs.Views.{GroupView, asking_by, asking_of, calls_in, joined}
use Rattle.tier_view.specs.Whole.{IsWhole}
use Rattle.std.specs.Option.{option_map}
use Rattle.tier_core.specs.Keeps.{IsKept, MayBeAsked}
use Rattle.tier_core.specs.Parts.{group_of}
use Rattle.tier_core.specs.Proxies.{MayGo, awaits, counted, write_begun, write_flies, write_sent}
use Rattle.tier_core.specs.Turns.{IsTurn}
use Rattle.tier_core.specs.declared.parts.Agent.{Agent}
use Rattle.tier_core.specs.declared.parts.Start.{Start}
use Rattle.tier_core.specs.declared.turns.Turn.{Turn}

-- ---- calls in flight

-- what holds of all entries holds of the one that is found
pub entry_holds : (P : Entry → Type 0) (es : List Entry) (n : ℕ) (e : Entry) → AllByRecursion P es → entry_of es n ≡ Some e → P e
entry_holds P [] n e h is = absurd (cc)
entry_holds P (d ∷ es) n e h is =
    either_way (d.number == n)
    (λ same. subst P (one_entry d e (sym (ap (λ b. cond b (Some d) (entry_of es n)) same) ∙ is)) h.0)
    (λ other. entry_holds P es n e h.1 (sym (ap (λ b. cond b (Some d) (entry_of es n)) other) ∙ is))

module _ (v : GroupView) (turn : Turn) (q : Req) (is : IsTurn v turn (Write q)) where
  pub turn_asked : HasAsked v turn.call turn.line q
  turn_asked =
      ap asking_of (call_found v.calls.entries turn.call is.entry is.is)
      ∙ ap (λ (a : Asked). asking_by a is.entry.line) is.asked_is
      ∙ ap (λ (o : Option ℕ). asking_by (Write q) o) is.turn_is.line

  pub turn_going : IsInFlight v.calls.entries turn.call
  turn_going = subst IsGoing (sym is.is) is.turn_is.going

  pub turn_lawful : AllByRecursion (λ (e : Entry). MayBeAsked e.asked) v.calls.entries → MayBeAsked (Write q)
  turn_lawful all = subst MayBeAsked is.asked_is (entry_holds (λ (e : Entry). MayBeAsked e.asked) v.calls.entries turn.call is.entry all is.is)

-- ---- numbers of work

-- the next operation is no work's
not_yet : (v : GroupView) → IsWhole v → (n : Name) (b : Bool) → has_opid (fin.get v.traffic.flights n) v.standing.next_opid ≡ b → b ≡ false
not_yet v h n false e = refl
not_yet v h n true e =
    let has : HasOpid (fin.get v.traffic.flights n) v.standing.next_opid = (opids_are_tested (fin.get v.traffic.flights n) v.standing.next_opid).0 e in
    absurd (omega (arith, ((h.memory.sound.each n).counted v.standing.next_opid has).1))

pub next_is_new : (v : GroupView) (driver : Option ℕ) (owner : ℕ) (r : Req) → IsWhole v → IsNewBy has_opid v.traffic.flights (Flight.Write driver owner v.standing.next_opid r)
next_is_new v driver owner r h k has n =
    subst (λ (j : ℕ). has_opid (fin.get v.traffic.flights n) j ≡ false) (eqb-true v.standing.next_opid k has)
    (not_yet v h n (has_opid (fin.get v.traffic.flights n) v.standing.next_opid) refl)

pub idle_is_new : (flights : Flights) (call owner op : ℕ) (r : Req) → IsIdle call flights → IsNewBy has_call flights (Flight.Write (Some call) owner op r)
idle_is_new flights call owner op r idle k has n = subst (λ (j : ℕ). has_call (fin.get flights n) j ≡ false) (eqb-true call k has) (idle n)

-- ---- the steps

-- a call in flight awaits a message that was sent
pub awaiting_keeps : (v : GroupView) (call number : ℕ) → IsWhole v → IsInFlight v.calls.entries call → number < v.traffic.next_message
    → Keeps (with_doubt (joined v).doubt) None v (awaits call number v)
awaiting_keeps v call number h going less =
    rests_keeps v h v.stores.base_stopped (awaits call number v).traffic v.standing (with_doubt (joined v).doubt) (rests_promises (joined v)) (λ start b z k. k) refl refl h.flights
    (record {
      messages = h.traffic.messages;
      replies = h.traffic.replies;
      answers = h.traffic.answers;
      owned = h.traffic.owned;
      begun = h.traffic.begun;
      awaited =
          all_placed (λ (a : Awaited). IsInFlight v.calls.entries a.call × (a.message < v.traffic.next_message)) (λ a b. nat_cmp a.call b.call) (record { call = call; message = number })
          (going, less) v.traffic.awaited h.traffic.awaited;
    })
    (record { cache = h.stops.cache; base = h.stops.base })

-- a step without a doubt may be one in any
surely : (v w : GroupView) → v.stores.pending ≡ None → Keeps as_it_is None v w → Keeps (with_doubt (joined v).doubt) None v w
surely v w none k = subst (λ o. Keeps (with_doubt o) None v w) (sym (ap (option_map doubt_in) none)) k

module _ (v : GroupView) (driver owner line op : ℕ) (r : Req) (h : IsWhole v) (none : v.stores.pending ≡ None) (flies : fin.get v.traffic.flights r.name ≡ Some (Flight.Write (Some driver) owner op r))
    (asked : HasAsked v owner line r) (going : IsInFlight v.calls.entries driver) where
  -- the Write of a request that a call drives is sent
  pub sent_quietly : KeepsQuietly v (write_sent driver owner line op r v)
  sent_quietly =
      let sent = sending_writes_keeps v (Some driver) owner line op r h none flies asked in
      let quiet : KeepsQuietly v _ = leaving_is_quiet v _ (surely v _ none sent) (record { stores = refl; log = refl; calls = refl; epoch = refl; opids = refl }) in
      let waits = awaiting_keeps _ driver v.traffic.next_message sent.0 going (omega arith) in
      let last : KeepsQuietly _ (write_sent driver owner line op r v) = leaving_is_quiet _ (write_sent driver owner line op r v) waits (record { stores = refl; log = refl; calls = refl; epoch = refl; opids = refl }) in
      (last.0, quiets_join v _ (write_sent driver owner line op r v) quiet.1 last.1 (inl refl))

module _ (v : GroupView) (turn : Turn) (q : Req) (h : IsWhole v) (may : MayGo v turn q) where
  -- it begins, and is sent, in one step
  pub begun_step : Keeps as_it_is None v (write_begun turn q v)
  begun_step =
      let w : GroupView = begun_write turn.call q v in
      let asked : HasAsked v turn.call turn.line q = turn_asked v turn q may.turn_is in
      let going : IsInFlight v.calls.entries turn.call = turn_going v turn q may.turn_is in
      let first = beginning_writes_keeps v turn.call turn.line q h may.settled may.up may.bare may.free asked going may.first in
      let then : KeepsQuietly w (write_begun turn q v) =
      sent_quietly w turn.call turn.call turn.line v.standing.next_opid q first.0 may.settled
      (get_here v.traffic.flights q.name (Some (Flight.Write (Some turn.call) turn.call v.standing.next_opid q))) asked going in
      (then.0, steps_join_quiet as_it_is None v w (write_begun turn q v) first.1 then.1 (inl refl) (inr refl))

-- ---- what always holds of the group behind it

module _ (v : GroupView) (base : BaseView) (old new : TableView) (turn : Turn) (q : Req) where
  begun_kept : IsKept v base old → MayGo v turn q → new.earlier ≡ old.earlier → IsKept (write_begun turn q v) base new
  begun_kept h may earlier = record {
    whole = (begun_step v turn q h.whole may).0;
    cached = h.cached;
    based = h.based;
    level = h.level;
    counted = subst (λ n. v.standing.next_opid + 1 + n ≡ length (v.calls.flown ++ write_flown turn.call q v ∷ []) + 1) (sym earlier)
        (omega (arith, h.counted, length_push v.calls.flown (write_flown turn.call q v)));
    messages = (turn_lawful v turn q may.turn_is h.asked, h.messages);
    asked = h.asked;
  }

-- ---- all of it, for the parts

module _ (stores : Stores) (log : Log) (t u : TableView) (w x : WiresView) (start after : Start) (agent : Agent) (base : BaseView) (turn : Turn) (q : Req) where
  abbrev Old : GroupView
  Old = group_of stores log t.calls w.traffic start agent

  abbrev New : GroupView
  New = group_of stores log u.calls x.traffic after agent

  abbrev Come : Calls
  Come = with_flown (write_flown turn.call q Old) t.calls

  begun_is : u.calls ≡ Come → x.traffic ≡ write_flies turn start.cache_epoch start.next_opid q w.traffic → after ≡ counted start → New ≡ write_begun turn q Old
  begun_is calls wires started =
      ap (λ (c : Calls). group_of stores log c x.traffic after agent) calls
      ∙ ap (λ (f : Traffic). group_of stores log Come f after agent) wires
      ∙ ap (λ (s : Start). group_of stores log Come (write_flies turn start.cache_epoch start.next_opid q w.traffic) s agent) started

  same_is : u.calls ≡ t.calls → x.traffic ≡ w.traffic → after ≡ start → New ≡ Old
  same_is calls wires started =
      ap (λ (c : Calls). group_of stores log c x.traffic after agent) calls
      ∙ ap (λ (f : Traffic). group_of stores log t.calls f after agent) wires
      ∙ ap (λ (s : Start). group_of stores log t.calls w.traffic s agent) started

  module _ (h : IsKept Old base t) (may : MayGo Old turn q) (earlier : u.earlier ≡ t.earlier) where
    pub begin_kept : {X E : Type 0} (result : Result X E) → OnOk result (u.calls ≡ Come)
        → OnOk result (x.traffic ≡ write_flies turn start.cache_epoch start.next_opid q w.traffic) → OnOk result (after ≡ counted start)
        → OnErr result (u.calls ≡ t.calls) → OnErr result (x.traffic ≡ w.traffic) → OnErr result (after ≡ start) → IsKept New base u
    begin_kept (Ok y) calls wires started calls_stay wires_stay start_stays =
        subst (λ (v : GroupView). IsKept v base u) (sym (begun_is calls wires started)) (begun_kept Old base t u turn q h may earlier)
    begin_kept (Err y) calls wires started calls_stay wires_stay start_stays =
        subst (λ (v : GroupView). IsKept v base u) (sym (same_is calls_stay wires_stay start_stays)) (record {
          whole = h.whole;
          cached = h.cached;
          based = h.based;
          level = h.level;
          counted = subst (λ n. start.next_opid + n ≡ length t.calls.flown + 1) (sym earlier) h.counted;
          messages = h.messages;
          asked = h.asked;
        })

  pub begin_is : {X E : Type 0} (result : Result X E) → OnOk result (u.calls ≡ Come)
      → OnOk result (x.traffic ≡ write_flies turn start.cache_epoch start.next_opid q w.traffic) → OnOk result (after ≡ counted start) → OnOk result (New ≡ write_begun turn q Old)
  begin_is (Ok y) calls wires started = begun_is calls wires started
  begin_is (Err y) calls wires started = tt

  pub begin_step : IsWhole Old → MayGo Old turn q → {X E : Type 0} (result : Result X E) → OnOk result (u.calls ≡ Come)
      → OnOk result (x.traffic ≡ write_flies turn start.cache_epoch start.next_opid q w.traffic) → OnOk result (after ≡ counted start) → OnOk result (Keeps as_it_is None Old New)
  begin_step whole may (Ok y) calls wires started = subst (Keeps as_it_is None Old) (sym (begun_is calls wires started)) (begun_step Old turn q whole may)
  begin_step whole may (Err y) calls wires started = tt

  pub begin_not : {X E : Type 0} (result : Result X E) → OnErr result (u.calls ≡ t.calls) → OnErr result (x.traffic ≡ w.traffic) → OnErr result (after ≡ start) → OnErr result (New ≡ Old)
  begin_not (Ok y) calls wires started = tt
  begin_not (Err y) calls wires started = same_is calls wires started
