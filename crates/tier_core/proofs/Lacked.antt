-- A proxied write meets want of room in the base.
use Rattle.std.proofs.Common.{◌≡◌, ◌≤◌, ◌<◌, ◌⊎◌, inl, inr, ℕ, ◌+◌, ◌==◌, Bool, true, false, List, [], ◌∷◌, cond, map, length, Option, Some, None, refl, sym, ap, subst, ◌∙◌, arith}
use Rattle.std.specs.Prelude.{if◌then◌else◌}
use Rattle.std.specs.FinMap as fin
use Rattle.std.specs.Option.{option_map}
use Rattle.std.proofs.lemmas.Bool.{eqb-true, eq-eqb}
use Rattle.base_pool.specs.Views.{BaseView}
use Rattle.obj_model.specs.declared.change.Pool.TheVariants.{Base}
use Rattle.obj_model.specs.declared.req.Req.{Req}
use Rattle.obj_model.specs.declared.tier.Path.{Path}
use Rattle.obj_model.specs.declared.tier.Path.TheVariants.{ProxyWrite}
use Rattle.tier_calls.specs.Tables.{TableView}
use Rattle.tier_chron.proofs.Lists.{either_way}
use Rattle.tier_chron.specs.Logs.{Log}
use Rattle.tier_chron.specs.Shapes.{IsBegun, Stands, may_answer, may_go}
use Rattle.tier_chron.specs.declared.answer.Answer.TheVariants as answer
use Rattle.tier_chron.specs.declared.asked.Asked.{Asked}
use Rattle.tier_chron.specs.declared.asked.Asked.TheVariants as ask
use Rattle.tier_chron.specs.declared.entries.Act.{Act}
use Rattle.tier_chron.specs.declared.entries.Logged.{Logged}
use Rattle.tier_flight.specs.Changes.{IsDroppedIn}
use Rattle.tier_flight.specs.Numbers.{HaveOneRead}
use Rattle.tier_protocol.specs.Tiers.{BaseReply, Flight, Flights, Name, IsIn}
use Rattle.tier_traffic.specs.Messages.{replied_of}
use Rattle.tier_traffic.specs.Wires.{WiresView}
use Rattle.tier_view.proofs.Answering.{leaving_is_quiet, quiets_join}
use Rattle.tier_view.proofs.AnsweringActs.{found_holds}
use Rattle.tier_view.proofs.AnsweringFaults.{entries_may_log}
use Rattle.tier_view.proofs.StartingLosses.{losing_replies_keeps}
use Rattle.tier_view.specs.Answered.{IsAnswerOf}
use Rattle.tier_view.specs.Answers.{KeepsQuietly, ended_call, told_log}
use Rattle.tier_view.specs.Calls.{IsGoing, IsInFlight, call_in, entry_of}
use Rattle.tier_view.specs.Starts.{forgot_reply}
use Rattle.tier_view.specs.Stores.{Stores}
use Rattle.tier_view.specs.Traffic.{Traffic, replies_of}
use Rattle.tier_view.specs.Views.{GroupView}
use Rattle.tier_view.specs.Whole.{IsWhole}
use Rattle.tier_view.specs.declared.parts.Entry.{Entry}
use Rattle.tier_view.specs.declared.parts.Replied.{Replied}
use Rattle.tier_core.specs.Ends.{GoesWith, calls_ended, wires_ended}
use Rattle.tier_core.specs.Keeps.{IsKept}
use Rattle.tier_core.specs.Lacks.{IsDrivenBy, IsLacked, LacksParts, LacksWrite, TellsDriven, TellsLacked, client_by, client_in, lacked_by, lacked_here, lacked_in, way_of, wires_heard}
use Rattle.tier_core.specs.Lands.{owner_turn}
use Rattle.tier_core.specs.Parts.{group_of}
use Rattle.tier_core.specs.declared.lacks.Lacked.{Lacked}
use Rattle.tier_core.specs.declared.parts.Agent.{Agent}
use Rattle.tier_core.specs.declared.parts.Start.{Start}
use Rattle.tier_core.specs.declared.turns.Turn.{Turn}
use Rattle.tier_core.proofs.EndedCalls.{IsFault, answered_quietly, end_is, end_kept, end_step, fault_may}
use Rattle.tier_core.proofs.Resting.{nothing_quietly}
use Rattle.tier_core.proofs.Told.{IsWriter, writer_is}

-- ---- the work that is told of

one_lacked : (a b : Lacked) → Some a ≡ Some b → a ≡ b
one_lacked a b e = cc

-- no call drives the work of the operation that met want of room
pub not_lacked : (log : Log) (entries : List Entry) (t : Traffic) (epoch number : ℕ) (l : Lacked) → Some l ≡ lacked_in epoch (replied_of t.replies number) → TellsDriven t.flights l.opid None
    → TellsLacked log entries t epoch number None
not_lacked log entries t epoch number l at none logged is =
    none is.driver is.owner (subst (λ (x : Lacked). IsDrivenBy t.flights x.opid is.driver is.owner) (one_lacked is.lacked l (sym is.told ∙ sym at)) is.driven)

-- the parts where the driver is answered
pub lacks_parts : (l : Logged) (number : ℕ) (log after : Log) (t u : TableView) (w y x : WiresView) (dropped : Option ℕ) → y ≡ wires_heard number w → after ≡ told_log (Some l) log
    → GoesWith l.call y.traffic.flights dropped → HaveOneRead y.traffic.flights → IsDroppedIn l.call y.traffic.flights x.traffic.flights
    → u ≡ calls_ended (length log.answers) l.call dropped t → x ≡ wires_ended l.call x.traffic.flights y → LacksParts (Some l) number log after t u w x
lacks_parts l number log after t u w y x dropped heard logs goes reads left calls wires = record {
  dropped = dropped;
  logged = logs;
  goes = subst (λ (z : WiresView). GoesWith l.call z.traffic.flights dropped) heard goes;
  reads = subst (λ (z : WiresView). HaveOneRead z.traffic.flights) heard reads;
  left = subst (λ (z : WiresView). IsDroppedIn l.call z.traffic.flights x.traffic.flights) heard left;
  calls = calls;
  wires = wires ∙ ap (wires_ended l.call x.traffic.flights) heard;
}

-- ---- the reply

lacked_is : (epoch : ℕ) (r : BaseReply) (l : Lacked) → lacked_by epoch r ≡ Some l → BaseReply.NoSpace epoch l.opid l.used l.need l.limit ≡ r
lacked_is epoch (BaseReply.NoSpace e op used need limit) l is = by (e == epoch) refl is
  where
    by : (b : Bool) → (e == epoch) ≡ b → (if b then Some (record { opid = op; used = used; need = need; limit = limit }) else None) ≡ Some l
        → BaseReply.NoSpace epoch l.opid l.used l.need l.limit ≡ BaseReply.NoSpace e op used need limit
    by true same is =
        let one : e ≡ epoch = eqb-true e epoch same in
        let both : record { opid = op; used = used; need = need; limit = limit } ≡ l = cc in
        ap (λ n. BaseReply.NoSpace n l.opid l.used l.need l.limit) (sym one) ∙ ap (λ (x : Lacked). BaseReply.NoSpace e x.opid x.used x.need x.limit) (sym both)
    by false same is = absurd (cc)
lacked_is epoch (BaseReply.Wrote e op a) l is = absurd (cc)
lacked_is epoch (BaseReply.Fenced e) l is = absurd (cc)
lacked_is epoch (BaseReply.Chunk e op chunk) l is = absurd (cc)
lacked_is epoch (BaseReply.Looked e op looked) l is = absurd (cc)
lacked_is epoch (BaseReply.Installed e op seq) l is = absurd (cc)
lacked_is epoch (BaseReply.OldEpoch have got) l is = absurd (cc)
lacked_is epoch (BaseReply.NotFenced have got) l is = absurd (cc)

lacked_is_in : (epoch : ℕ) (rs : List Replied) (number : ℕ) (l : Lacked) → lacked_in epoch (replied_of rs number) ≡ Some l
    → IsIn (BaseReply.NoSpace epoch l.opid l.used l.need l.limit) (map (λ (r : Replied). r.reply) rs)
lacked_is_in epoch [] number l is = absurd (cc)
lacked_is_in epoch (r ∷ rs) number l is =
    either_way (r.number == number)
    (λ same. inl (lacked_is epoch r.reply l (sym (ap (λ b. lacked_in epoch (cond b (Some r) (replied_of rs number))) same) ∙ is)))
    (λ other. inr (lacked_is_in epoch rs number l (sym (ap (λ b. lacked_in epoch (cond b (Some r) (replied_of rs number))) other) ∙ is)))

-- ---- the client's call

-- a client asked it
abbrev IsOfClient : Asked → Type 0
IsOfClient (ask.Write r) = Unit {0}
IsOfClient (ask.Read client name vector) = Unit {0}
IsOfClient asked = ⊥

record IsClient (call : ℕ) (entries : List Entry) (turn : Turn) : Type 0 where
  pub call_is : turn.call ≡ call
  pub entry : Entry
  pub is : entry_of entries call ≡ Some entry
  pub asked : IsOfClient entry.asked
  pub line : entry.line ≡ Some turn.line
  pub begin : entry.begin ≡ turn.begin

one_turn : (a b : Turn) → Some a ≡ Some b → a ≡ b
one_turn a b e = cc

turned : (call : ℕ) (asked : Asked) (line : Option ℕ) (begin : ℕ) (turn : Turn) → client_by call asked line begin ≡ Some turn → (turn.call ≡ call) × IsOfClient asked × (line ≡ Some turn.line) × (begin ≡ turn.begin)
turned call (ask.Write r) (Some n) begin turn e =
    let same : turn ≡ record { call = call; line = n; begin = begin } = one_turn turn (record { call = call; line = n; begin = begin }) (sym e) in
    (ap (λ (x : Turn). x.call) same, tt, sym (ap (λ (x : Turn). Some x.line) same), sym (ap (λ (x : Turn). x.begin) same))
turned call (ask.Write r) None begin turn e = absurd (cc)
turned call (ask.Read client name vector) (Some n) begin turn e =
    let same : turn ≡ record { call = call; line = n; begin = begin } = one_turn turn (record { call = call; line = n; begin = begin }) (sym e) in
    (ap (λ (x : Turn). x.call) same, tt, sym (ap (λ (x : Turn). Some x.line) same), sym (ap (λ (x : Turn). x.begin) same))
turned call (ask.Read client name vector) None begin turn e = absurd (cc)
turned call (ask.Flush name blocking begin_only) line begin turn e = absurd (cc)
turned call (ask.Finish name) line begin turn e = absurd (cc)
turned call (ask.Evict name) line begin turn e = absurd (cc)
turned call ask.Drain line begin turn e = absurd (cc)
turned call ask.Agent line begin turn e = absurd (cc)
turned call ask.Start line begin turn e = absurd (cc)

client_is : (call : ℕ) (entries : List Entry) (turn : Turn) → client_in call (entry_of entries call) ≡ Some turn → IsClient call entries turn
client_is call entries turn e = by (entry_of entries call) refl e
  where
    by : (o : Option Entry) → entry_of entries call ≡ o → client_in call o ≡ Some turn → IsClient call entries turn
    by None at is = absurd (cc)
    by (Some x) at is = let k = turned call x.asked x.line x.begin turn is in
        record { call_is = k.0; entry = x; is = at; asked = k.1; line = k.2; begin = k.3 }

module _ (used need limit : ℕ) where
  told_so : (a : Asked) → IsOfClient a → may_answer a (answer.NoSpace Base used need limit) ≡ true
  told_so (ask.Write r) h = refl
  told_so (ask.Read client name vector) h = refl
  told_so (ask.Flush name blocking begin_only) h = absurd h
  told_so (ask.Finish name) h = absurd h
  told_so (ask.Evict name) h = absurd h
  told_so ask.Drain h = absurd h
  told_so ask.Agent h = absurd h
  told_so ask.Start h = absurd h

  unrouted : (a : Asked) → IsOfClient a → may_go a (answer.NoSpace Base used need limit) None ≡ true
  unrouted (ask.Write r) h = refl
  unrouted (ask.Read client name vector) h = refl
  unrouted (ask.Flush name blocking begin_only) h = absurd h
  unrouted (ask.Finish name) h = absurd h
  unrouted (ask.Evict name) h = absurd h
  unrouted ask.Drain h = absurd h
  unrouted ask.Agent h = absurd h
  unrouted ask.Start h = absurd h

stands_lacked : (acts : List Act) (a : Asked) (turn : Turn) (count : ℕ) (way : Option Path) (l : Lacked) → IsOfClient a → Stands acts a (lacked_here turn count way l)
stands_lacked acts (ask.Write r) turn count way l h = tt
stands_lacked acts (ask.Read client name vector) turn count way l h = tt
stands_lacked acts (ask.Flush name blocking begin_only) turn count way l h = absurd h
stands_lacked acts (ask.Finish name) turn count way l h = absurd h
stands_lacked acts (ask.Evict name) turn count way l h = absurd h
stands_lacked acts ask.Drain turn count way l h = absurd h
stands_lacked acts ask.Agent turn count way l h = absurd h
stands_lacked acts ask.Start turn count way l h = absurd h

one_entry : (a b : Entry) → Some a ≡ Some b → a ≡ b
one_entry a b e = cc

-- ---- the answer

module _ (v : GroupView) (number : ℕ) (logged : Logged) (h : IsWhole v) (lacks : IsLacked v.log v.calls.entries v.traffic v.standing.cache_epoch number logged) where
  abbrev C : ℕ
  C = length v.log.acts

  abbrev O : Option Turn
  O = owner_turn lacks.driver lacks.owner v.calls.entries

  abbrev A : Logged
  A = lacked_here lacks.turn C (way_of O) lacks.lacked

  client : IsClient lacks.driver v.calls.entries lacks.turn
  client = client_is lacks.driver v.calls.entries lacks.turn lacks.is_turn

  abbrev E : Entry
  E = client.entry

  going : E.ended ≡ false
  going = subst IsGoing client.is (h.flights.listed lacks.driven.name (Flight.Write (Some lacks.driver) lacks.owner lacks.lacked.opid lacks.driven.req) lacks.driven.flight).0

  found : entry_of v.calls.entries lacks.turn.call ≡ Some E
  found = ap (entry_of v.calls.entries) client.call_is ∙ client.is

  begun : IsBegun v.log.acts (call_in E)
  begun = found_holds (IsBegun v.log.acts) v.calls.entries lacks.turn.call E h.shaped.begun found

  room : lacks.lacked.limit < lacks.lacked.used + lacks.lacked.need
  room =
      (h.memory.sound.wire.replied (BaseReply.NoSpace v.standing.cache_epoch lacks.lacked.opid lacks.lacked.used lacks.lacked.need lacks.lacked.limit)
      (lacked_is_in v.standing.cache_epoch v.traffic.replies number lacks.lacked lacks.told)).0

  routed : (o : Option Turn) → O ≡ o → may_go E.asked A.answer (way_of o) ≡ true
  routed None is = unrouted lacks.lacked.used lacks.lacked.need lacks.lacked.limit E.asked client.asked
  routed (Some t) is =
      let w : IsWriter lacks.driver lacks.owner v.calls.entries t = writer_is lacks.driver lacks.owner v.calls.entries t is in
      let same : E ≡ w.entry = one_entry E w.entry (sym client.is ∙ ap (entry_of v.calls.entries) w.drives ∙ w.is) in
      subst (λ (a : Asked). may_go a A.answer (Some ProxyWrite) ≡ true) (sym (ap (λ (x : Entry). x.asked) same ∙ w.asked)) refl

  answers : IsAnswerOf v E A
  answers = record {
    entry = found;
    going = going;
    line = client.line;
    begin = client.begin;
    seen = subst (λ n. n ≤ C) client.begin begun.begun;
    done = omega arith;
    now = refl;
    kind = told_so lacks.lacked.used lacks.lacked.need lacks.lacked.limit E.asked client.asked;
    numbers = room;
    way = routed O refl;
    beside = stands_lacked v.log.acts E.asked lacks.turn C (way_of O) lacks.lacked client.asked;
  }

  is_fault_here : IsFault v A
  is_fault_here = record { may = entries_may_log v E A h answers; fault = refl; cause = tt }

  pub lacked_fault : IsFault v logged
  lacked_fault = subst (IsFault v) (sym lacks.is) is_fault_here

-- the reply is forgotten
heard_quietly : (v : GroupView) (number : ℕ) → IsWhole v → KeepsQuietly v (forgot_reply number v)
heard_quietly v number h =
    leaving_is_quiet v (forgot_reply number v) (losing_replies_keeps number v h) (record { stores = refl; log = refl; calls = refl; epoch = refl; opids = refl })

module _ (stores : Stores) (log after : Log) (t u : TableView) (w x : WiresView) (start : Start) (agent : Agent) (base : BaseView) (number : ℕ) where
  abbrev Old : GroupView
  Old = group_of stores log t.calls w.traffic start agent

  abbrev New : GroupView
  New = group_of stores after u.calls x.traffic start agent

  abbrev M : GroupView
  M = forgot_reply number Old

  -- what it leaves of a group
  pub record IsLackedIn (result : Option ℕ) : Type 0 where
    pub kept : IsKept New base u
    pub is : LacksWrite number Old New result
    pub step : KeepsQuietly Old New

  pub lack_all : IsKept Old base t → (logged : Option Logged) → TellsLacked log t.calls.entries w.traffic start.cache_epoch number logged
      → LacksParts logged number log after t u w x → IsLackedIn (option_map (λ (l : Logged). l.call) logged)
  lack_all h (Some l) lacks e =
      let first : KeepsQuietly Old M = heard_quietly Old number h.whole in
      let fault : IsFault Old l = lacked_fault Old number l h.whole lacks in
      let there : IsFault M l = record { may = fault.may; fault = fault.fault; cause = fault.cause } in
      let quiet : KeepsQuietly M (ended_call l.call (Some l) x.traffic.flights e.dropped M) =
      answered_quietly M l.call x.traffic.flights e.dropped first.0 e.reads e.goes e.left l (fault_may M l first.0 there e.dropped) in
      let between : IsKept M base t = record {
        whole = first.0;
        cached = h.cached;
        based = h.based;
        level = h.level;
        counted = h.counted;
        messages = h.messages;
        asked = h.asked;
      } in
      let behind : KeepsQuietly M New = end_step stores log after t u (wires_heard number w) x start agent base l.call (Some l) e.dropped e.logged e.calls e.wires quiet in
      record {
        kept = end_kept stores log after t u (wires_heard number w) x start agent base l.call (Some l) e.dropped e.logged e.calls e.wires between quiet;
        is = (l, lacks, refl, end_is stores log after t u (wires_heard number w) x start agent base l.call (Some l) e.dropped e.logged e.calls e.wires e.goes e.left);
        step = (behind.0, quiets_join Old M New first.1 behind.1 (inl refl));
      }
  lack_all h None lacks e =
      let same : New ≡ Old =
      ap (λ (l : Log). group_of stores l u.calls x.traffic start agent) e.0
      ∙ ap (λ (z : TableView). group_of stores log z.calls x.traffic start agent) e.1
      ∙ ap (λ (z : WiresView). group_of stores log t.calls z.traffic start agent) e.2 in
      record {
        kept = subst (λ (v : GroupView). IsKept v base u) (sym same) (subst (λ (z : TableView). IsKept Old base z) (sym e.1) h);
        is = (same, lacks);
        step = subst (KeepsQuietly Old) (sym same) (nothing_quietly Old h.whole);
      }
