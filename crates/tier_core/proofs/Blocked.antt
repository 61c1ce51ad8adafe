-- A call is turned away by work on the name that it asked for.
use Rattle.std.proofs.Common.{◌≡◌, ◌≢◌, ◌≤◌, ◌↔◌, inl, inr, ℕ, ◌+◌, ◌==◌, ◌||◌, Bool, true, false, true≢false, List, [], ◌∷◌, length, not, Option, Some, None, refl, sym, ap, subst, ◌∙◌, arith}
use Rattle.std.specs.Prelude.{if◌then◌else◌}
use Rattle.std.specs.FinMap as fin
use Rattle.std.specs.List.{AllByRecursion, list_any}
use Rattle.std.proofs.lemmas.Bool.{or_parts}
use Rattle.obj_model.specs.declared.req.Req.{Req}
use Rattle.obj_model.specs.declared.tier.Kind.{Kind}
use Rattle.obj_model.specs.declared.tier.Kind.TheVariants as kind
use Rattle.obj_model.specs.declared.tier.Path.{Path}
use Rattle.obj_ops.proofs.Keeping.{ne-eqb}
use Rattle.std.proofs.lemmas.Bool.{eqb-true, eq-eqb, ne_eqb}
use Rattle.tier_calls.specs.Turns.{IsTheOne, StandsAs}
use Rattle.tier_chron.proofs.Lists.{all_imply}
use Rattle.tier_chron.specs.Laws.{MayStillAct}
use Rattle.tier_chron.specs.Logs.{Log}
use Rattle.tier_chron.specs.Shapes.{HasNoAct, IsBegun, Stands, holds_moves, holds_readings, may_answer, may_go}
use Rattle.tier_chron.specs.declared.answer.Answer.TheVariants as answer
use Rattle.tier_chron.specs.declared.asked.Asked.{Asked}
use Rattle.tier_chron.specs.declared.asked.Asked.TheVariants.{Write, Read, Flush, Finish, Evict, Drain, Agent, Start}
use Rattle.tier_chron.specs.declared.entries.Logged.{Logged}
use Rattle.tier_flight.specs.Busy.{busy_at, flush_busy, read_busy, reads_busy, write_busy}
use Rattle.tier_flight.specs.Changes.{IsDroppedIn, dropped_at}
use Rattle.tier_flight.specs.Ends.{left_at}
use Rattle.tier_flight.specs.Numbers.{HaveOneRead, IsIdle, IsNameBy, has_call}
use Rattle.tier_flight.specs.declared.busy.Busy.{Busy}
use Rattle.tier_flight.specs.declared.busy.Want.{Want}
use Rattle.tier_flight.specs.declared.busy.Want.TheVariants as want
use Rattle.tier_join.specs.Group.{Memory}
use Rattle.tier_join.specs.Promises.{as_it_is}
use Rattle.tier_join.specs.Steps.{with_doubt}
use Rattle.tier_owners.proofs.Closing.{owning_nothing_closes}
use Rattle.tier_protocol.specs.Owners.{Owned}
use Rattle.tier_protocol.specs.Tiers.{BaseMsg, Flight, Flights, Name, ReadFlight, IsIn}
use Rattle.tier_traffic.specs.Messages.{is_owned, is_owner}
use Rattle.tier_view.proofs.Answering.{leaving_is_quiet}
use Rattle.tier_view.proofs.AnsweringActs.{found_holds}
use Rattle.tier_view.proofs.AnsweringBlocked.{blocked_calls_keep}
use Rattle.tier_view.proofs.AnsweringClosing.{none_pending, readers_may_close_now}
use Rattle.tier_view.proofs.AnsweringDrops.{one_work_is_dropped}
use Rattle.tier_view.proofs.AnsweringFaults.{call_found, entries_may_log}
use Rattle.tier_view.proofs.Beginning.{surely_owned}
use Rattle.tier_view.proofs.Resting.{rests_promises}
use Rattle.tier_view.proofs.StartingRests.{rests_keeps}
use Rattle.tier_view.specs.Answered.{IsAnswerOf}
use Rattle.tier_view.specs.Answers.{DropsWork, KeepsQuietly, MayCloseBy, MayCloseNow, ended_call}
use Rattle.tier_view.specs.Calls.{Calls, call_in, entry_of}
use Rattle.tier_view.specs.declared.parts.Entry.{Entry}
use Rattle.tier_view.specs.declared.parts.Flown.{Flown}
use Rattle.tier_view.specs.Laws.{HasAsked}
use Rattle.tier_view.specs.Tables.{HasCome}
use Rattle.tier_view.specs.Traffic.{Traffic, owned_by, owned_in}
use Rattle.tier_view.specs.declared.parts.Owner.{Owner}
use Rattle.tier_view.specs.declared.parts.Sent.{Sent}
use Rattle.tier_view.specs.Views.{GroupView, asking_by, asking_of, calls_in, joined, ledger_in, memory_of}
use Rattle.tier_view.specs.Whole.{AsksFor, AsksOf, IsWhole}
use Rattle.tier_view.specs.Worlds.{IsOwned}
use Rattle.tier_core.specs.Blocks.{Blocks, BlocksParts, IsFresh, IsHeldUp, MayWant, StandsOther, TellsHeld, Wants, blocked_here, told_way}
use Rattle.tier_core.specs.Ends.{GoesWith}
use Rattle.tier_core.specs.Turns.{IsTurn}
use Rattle.tier_core.specs.declared.turns.Turn.{Turn}
use Rattle.base_pool.specs.Views.{BaseView}
use Rattle.tier_calls.specs.Tables.{TableView}
use Rattle.tier_traffic.specs.Wires.{WiresView}
use Rattle.tier_view.specs.Stores.{Stores}
use Rattle.tier_core.specs.Keeps.{IsKept}
use Rattle.tier_core.specs.Parts.{group_of}
use Rattle.tier_core.specs.declared.parts.Agent.{Agent as TheAgent}
use Rattle.tier_core.specs.declared.parts.Start.{Start as TheStart}
use Rattle.tier_core.proofs.EndedCalls.{end_is, end_kept, end_step}
use Rattle.tier_core.proofs.Proxied.{turn_asked}
use Rattle.tier_core.proofs.Resting.{nothing_quietly}

-- ---- who may be turned away

-- a call of which no message is on the wire owns none
not_by : (call : ℕ) (m : BaseMsg) (w : Option Owner) (rest : List Owned) → is_owner call w ≡ false
    → ((o : Owned) → IsIn o rest → o.call ≢ call) → (o : Owned) → IsIn o (owned_by m w rest)
    → o.call ≢ call
not_by call (BaseMsg.Write e op r) (Some w) rest h k o (inl is) = λ same.
    let yes : (w.call == call) ≡ true = eq-eqb w.call call (sym (ap (λ x. x.call) is) ∙ same) in
    absurd (true≢false (sym yes ∙ h))
not_by call (BaseMsg.Write e op r) (Some w) rest h k o (inr on) = k o on
not_by call (BaseMsg.Write e op r) None rest h k o on = k o on
not_by call (BaseMsg.Fence e) w rest h k o on = k o on
not_by call (BaseMsg.GetChunk e op n at) w rest h k o on = k o on
not_by call (BaseMsg.Look e op n x) w rest h k o on = k o on
not_by call (BaseMsg.Install e op n s) w rest h k o on = k o on

not_owned : (call : ℕ) (ss : List Sent) → list_any (is_owned call) ss ≡ false → (o : Owned)
    → IsIn o (owned_in ss) → o.call ≢ call
not_owned call [] h o on = absurd on
not_owned call (s ∷ ss) h o on =
    let both = or_parts (is_owner call s.owner) (list_any (is_owned call) ss) h in
    not_by call s.message s.owner (owned_in ss) both.0 (not_owned call ss both.1) o on

-- a call that owns nothing may be answered for good
pub owning_now : (v : GroupView) (call line : ℕ) (r : Req) → v.stores.pending ≡ None
    → HasAsked v call line r
    → ((driver : Option ℕ) (op : ℕ) (q : Req)
    → fin.get v.traffic.flights r.name ≡ Some (Flight.Write driver call op q) → ⊥)
    → list_any (is_owned call) v.traffic.messages ≡ false → MayCloseNow v call
owning_now v call line r none asked idle silent = record {
  free = none_pending call v.stores.pending none;
  closes = λ start tell b z i.
      let m : Memory = memory_of v.log v.traffic v.standing in
      let k : IsOwned start m (ledger_in v) z = surely_owned start v z none (b.owners z i) in
      subst (λ p. MayCloseBy start m (ledger_in v) p z call) (sym none) (record {
        owned = k;
        may = owning_nothing_closes _ (ledger_in v) call line r k.spells.sound k.owners asked
            (record {
              idle = idle;
              silent = λ o on mine wire above. not_owned call v.traffic.messages silent o on mine;
            });
      });
}

-- ---- what may be told

abbrev Tells : (Kind → Bool) → Option Busy → Type 0
Tells holds None = Unit {0}
Tells holds (Some b) = holds b.kind ≡ true

reads_hold : (list : List ReadFlight) → Tells holds_readings (reads_busy list want.PromoteRead)
reads_hold [] = tt
reads_hold (r ∷ rs) = refl

reads_let : (list : List ReadFlight) → Tells holds_readings (reads_busy list want.Read)
reads_let [] = tt
reads_let (r ∷ rs) = tt

read_held : (w : Option Flight) → Tells holds_readings (busy_at w want.Read)
read_held None = tt
read_held (Some (Flight.Promote call op gather ask)) = refl
read_held (Some (Flight.Write (Some driver) owner op r)) = refl
read_held (Some (Flight.Write None owner op r)) = tt
read_held (Some (Flight.Reads list)) = reads_let list
read_held (Some (Flight.Flush call op seq blocking drain)) = tt

promote_held : (w : Option Flight) → Tells holds_readings (busy_at w want.PromoteRead)
promote_held None = tt
promote_held (Some (Flight.Promote call op gather ask)) = refl
promote_held (Some (Flight.Write (Some driver) owner op r)) = refl
promote_held (Some (Flight.Write None owner op r)) = tt
promote_held (Some (Flight.Reads list)) = reads_hold list
promote_held (Some (Flight.Flush call op seq blocking drain)) = tt

reads_leave : (list : List ReadFlight) → Tells holds_moves (reads_busy list want.Flush)
reads_leave [] = tt
reads_leave (r ∷ rs) = tt

flush_held : (w : Option Flight) → Tells holds_moves (busy_at w want.Flush)
flush_held None = tt
flush_held (Some (Flight.Promote call op gather ask)) = refl
flush_held (Some (Flight.Write (Some driver) owner op r)) = refl
flush_held (Some (Flight.Write None owner op r)) = refl
flush_held (Some (Flight.Reads list)) = reads_leave list
flush_held (Some (Flight.Flush call op seq blocking drain)) = refl

reads_stay : (list : List ReadFlight) → Tells holds_moves (reads_busy list want.Evict)
reads_stay [] = tt
reads_stay (r ∷ rs) = tt

evict_held : (w : Option Flight) → Tells holds_moves (busy_at w want.Evict)
evict_held None = tt
evict_held (Some (Flight.Promote call op gather ask)) = refl
evict_held (Some (Flight.Write (Some driver) owner op r)) = refl
evict_held (Some (Flight.Write None owner op r)) = refl
evict_held (Some (Flight.Reads list)) = reads_stay list
evict_held (Some (Flight.Flush call op seq blocking drain)) = refl

-- the call may be answered so
may_be_blocked : (a : Asked) (name : Name) (x : Want) (w : Option Flight) (b : Busy)
    → Wants a name x → busy_at w x ≡ Some b → may_answer a (answer.Blocked b.kind b.opid) ≡ true
may_be_blocked (Write r) name want.Write w b h is = refl
may_be_blocked (Write r) name want.Read w b h is = absurd h
may_be_blocked (Write r) name want.PromoteRead w b h is = absurd h
may_be_blocked (Write r) name want.Flush w b h is = absurd h
may_be_blocked (Write r) name want.Evict w b h is = absurd h
may_be_blocked (Read client n vector) name want.Read w b h is =
    ap (λ x. x || false) (subst (Tells holds_readings) is (read_held w))
may_be_blocked (Read client n vector) name want.PromoteRead w b h is =
    ap (λ x. x || false) (subst (Tells holds_readings) is (promote_held w))
may_be_blocked (Read client n vector) name want.Write w b h is = absurd h
may_be_blocked (Read client n vector) name want.Flush w b h is = absurd h
may_be_blocked (Read client n vector) name want.Evict w b h is = absurd h
may_be_blocked (Flush n blocking false) name want.Flush w b h is =
    ap (λ x. x || false) (subst (Tells holds_moves) is (flush_held w))
may_be_blocked (Flush n blocking true) name want.Flush w b h is =
    ap (λ x. x || false) (subst (Tells holds_moves) is (flush_held w))
may_be_blocked (Flush n blocking begin_only) name want.Read w b h is = absurd h
may_be_blocked (Flush n blocking begin_only) name want.PromoteRead w b h is = absurd h
may_be_blocked (Flush n blocking begin_only) name want.Write w b h is = absurd h
may_be_blocked (Flush n blocking begin_only) name want.Evict w b h is = absurd h
may_be_blocked (Evict n) name want.Evict w b h is =
    ap (λ x. x || false) (subst (Tells holds_moves) is (evict_held w))
may_be_blocked (Evict n) name want.Read w b h is = absurd h
may_be_blocked (Evict n) name want.PromoteRead w b h is = absurd h
may_be_blocked (Evict n) name want.Write w b h is = absurd h
may_be_blocked (Evict n) name want.Flush w b h is = absurd h
may_be_blocked (Finish n) name x w b h is = absurd h
may_be_blocked Drain name x w b h is = absurd h
may_be_blocked Agent name x w b h is = absurd h
may_be_blocked Start name x w b h is = absurd h

no_way : (a : Asked) (k : Kind) (op : ℕ) → may_go a (answer.Blocked k op) None ≡ true
no_way (Write r) k op = refl
no_way (Read client n vector) k op = refl
no_way (Flush n blocking begin_only) k op = refl
no_way (Finish n) k op = refl
no_way (Evict n) k op = refl
no_way Drain k op = refl
no_way Agent k op = refl
no_way Start k op = refl

goes_blocked : (a : Asked) (k : Kind) (op : ℕ) (way : Option Path)
    → may_go a (answer.Blocked kind.Read op) way ≡ true
    → may_go a (answer.Blocked k op) (told_way k way) ≡ true
goes_blocked a kind.Promote op way h = no_way a kind.Promote op
goes_blocked a kind.Write op way h = no_way a kind.Write op
goes_blocked a kind.Read op way h = h
goes_blocked a kind.Flush op way h = no_way a kind.Flush op

stands_blocked : (acts : List _) (a : Asked) (turn : Turn) (count : ℕ) (b : Busy)
    (way : Option Path) → HasNoAct turn.call acts → Stands acts a (blocked_here turn count b way)
stands_blocked acts (Write r) turn count b way h = h
stands_blocked acts (Read client n vector) turn count b way h = tt
stands_blocked acts (Flush n blocking begin_only) turn count b way h = tt
stands_blocked acts (Finish n) turn count b way h = tt
stands_blocked acts (Evict n) turn count b way h = tt
stands_blocked acts Drain turn count b way h = tt
stands_blocked acts Agent turn count b way h = tt
stands_blocked acts Start turn count b way h = tt

-- ---- what it asked for

asks_of : (a : Asked) (name : Name) (x : Want) → Wants a name x → AsksOf name a
asks_of (Write r) name want.Write h = h
asks_of (Write r) name want.Read h = absurd h
asks_of (Write r) name want.PromoteRead h = absurd h
asks_of (Write r) name want.Flush h = absurd h
asks_of (Write r) name want.Evict h = absurd h
asks_of (Read client n vector) name want.Read h = h
asks_of (Read client n vector) name want.PromoteRead h = h
asks_of (Read client n vector) name want.Write h = absurd h
asks_of (Read client n vector) name want.Flush h = absurd h
asks_of (Read client n vector) name want.Evict h = absurd h
asks_of (Flush n blocking begin_only) name want.Flush h = h
asks_of (Flush n blocking begin_only) name want.Read h = absurd h
asks_of (Flush n blocking begin_only) name want.PromoteRead h = absurd h
asks_of (Flush n blocking begin_only) name want.Write h = absurd h
asks_of (Flush n blocking begin_only) name want.Evict h = absurd h
asks_of (Evict n) name want.Evict h = h
asks_of (Evict n) name want.Read h = absurd h
asks_of (Evict n) name want.PromoteRead h = absurd h
asks_of (Evict n) name want.Write h = absurd h
asks_of (Evict n) name want.Flush h = absurd h
asks_of (Finish n) name x h = absurd h
asks_of Drain name x h = absurd h
asks_of Agent name x h = absurd h
asks_of Start name x h = absurd h

-- a write request that holds up writers has the number that is told
told_number : (driver : Option ℕ) (owner op : ℕ) (q : Req) (b : Busy)
    → busy_at (Some (Flight.Write driver owner op q)) want.Write ≡ Some b → b.opid ≡ op
told_number (Some d) owner op q b is = cc
told_number None owner op q b is = absurd (cc)

-- ---- all of it

module _ (v : GroupView) (turn : Turn) (name : Name) (x : Want) (way : Option Path) (b : Busy)
    (h : IsWhole v) (may : MayWant v turn name x way)
    (held : IsHeldUp v.log v.calls v.traffic turn.call name x b) where
  abbrev C : ℕ
  C = length v.log.acts

  abbrev A : Logged
  A = blocked_here turn C b way

  begun : IsBegun v.log.acts (call_in may.turn_is.entry)
  begun = found_holds (IsBegun v.log.acts) v.calls.entries turn.call may.turn_is.entry
      h.shaped.begun may.turn_is.is

  of_asked : (P : Asked → Type 0) → P may.asked → P may.turn_is.entry.asked
  of_asked P p = subst P (sym may.turn_is.asked_is) p

  answers : IsAnswerOf v may.turn_is.entry A
  answers = record {
    entry = may.turn_is.is;
    going = may.turn_is.turn_is.going;
    line = may.turn_is.turn_is.line;
    begin = may.turn_is.turn_is.begin;
    seen = subst (λ n. n ≤ C) may.turn_is.turn_is.begin begun.begun;
    done = omega arith;
    now = refl;
    kind = of_asked (λ a. may_answer a (answer.Blocked b.kind b.opid) ≡ true)
        (may_be_blocked may.asked name x (fin.get v.traffic.flights name) b may.wants held.busy);
    numbers = tt;
    way = of_asked (λ a. may_go a (answer.Blocked b.kind b.opid) (told_way b.kind way) ≡ true)
        (goes_blocked may.asked b.kind b.opid way (may.goes b.opid));
    beside = of_asked (λ a. Stands v.log.acts a A)
        (stands_blocked v.log.acts may.asked turn C b way held.fresh.may.first);
  }

  reader : asking_by may.asked may.turn_is.entry.line ≡ None → MayCloseNow v turn.call
  reader none =
      readers_may_close_now v turn.call h
      (ap asking_of (call_found v.calls.entries turn.call may.turn_is.entry may.turn_is.is)
      ∙ ap (λ (a : Asked). asking_by a may.turn_is.entry.line) may.turn_is.asked_is ∙ none)

  writer : (r : Req) → may.asked ≡ Write r → x ≡ want.Write → r.name ≡ name
      → MayCloseNow v turn.call
  writer r asked wants named =
      owning_now v turn.call turn.line r may.settled (turn_asked v turn r (subst
      (IsTurn v turn) asked may.turn_is))
      (λ driver op q is.
      let come : HasCome v.calls.flown kind.Write r.name op (λ f. f.call ≡ turn.call) =
      (h.flights.listed r.name (Flight.Write driver turn.call op q) is).1 in
      let busy : busy_at (Some (Flight.Write driver turn.call op q)) want.Write ≡ Some b =
      subst (λ o. busy_at o want.Write ≡ Some b) (ap (fin.get v.traffic.flights) (sym named)
      ∙ is) (subst (λ y. busy_at (fin.get v.traffic.flights name) y ≡ Some b) wants held.busy)
      in
      held.other come.entry come.on (record {
        is = come.standing.opid
            ∙ sym (told_number driver turn.call op q b busy);
        there = come.standing.there;
      })
      come.whose)
      held.fresh.silent

  closes : (a : Asked) → may.asked ≡ a → (y : Want) → x ≡ y → Wants a name y
      → MayCloseNow v turn.call
  closes (Write r) is want.Write at w = writer r is at w
  closes (Write r) is want.Read at w = absurd w
  closes (Write r) is want.PromoteRead at w = absurd w
  closes (Write r) is want.Flush at w = absurd w
  closes (Write r) is want.Evict at w = absurd w
  closes (Read client n vector) is y at w = reader (ap (λ
      (a : Asked). asking_by a may.turn_is.entry.line) is)
  closes (Flush n blocking begin_only) is y at w = reader (ap (λ
      (a : Asked). asking_by a may.turn_is.entry.line) is)
  closes (Finish n) is y at w = reader (ap (λ (a : Asked). asking_by a may.turn_is.entry.line) is)
  closes (Evict n) is y at w = reader (ap (λ (a : Asked). asking_by a may.turn_is.entry.line) is)
  closes Drain is y at w = reader (ap (λ (a : Asked). asking_by a may.turn_is.entry.line) is)
  closes Agent is y at w = reader (ap (λ (a : Asked). asking_by a may.turn_is.entry.line) is)
  closes Start is y at w = reader (ap (λ (a : Asked). asking_by a may.turn_is.entry.line) is)

  asks : AsksFor name (entry_of v.calls.entries turn.call)
  asks = subst (AsksFor name) (sym may.turn_is.is) (of_asked (AsksOf name)
      (asks_of may.asked name x may.wants))

  module _ (flights : Flights) (dropped : Option ℕ) (reads : HaveOneRead v.traffic.flights)
      (goes : GoesWith turn.call v.traffic.flights dropped)
      (left : IsDroppedIn turn.call v.traffic.flights flights) where
    drops : DropsWork turn.call v.traffic.flights flights dropped
    drops = subst (DropsWork turn.call v.traffic.flights flights) (sym goes.is)
        (one_work_is_dropped v turn.call goes.found flights h goes.named (reads turn.call) left)

    -- the work on the name stays
    stays : fin.get flights name ≡ fin.get v.traffic.flights name
    stays =
        left name
        ∙ ap (λ (t : Bool). if t then left_at turn.call
        (fin.get v.traffic.flights name) else fin.get v.traffic.flights name)
        (held.fresh.idle name)

    pub blocked_quietly : KeepsQuietly v (ended_call turn.call (Some A) flights dropped v)
    blocked_quietly =
        blocked_calls_keep v A flights dropped name x b.kind b.opid h drops
        (entries_may_log v may.turn_is.entry A h answers) refl
        (ap (λ o. busy_at o x) stays ∙ held.busy) asks
        (λ f on standing. held.other f on (record { is = standing.opid; there = standing.there }))
        (closes may.asked refl x refl may.wants)

-- ---- what is tested

-- the one entry that stands tells whose it is
others_of : (call opid : ℕ) (fs : List Flown) (f : Flown) → IsTheOne opid fs (Some f)
    → (f.call ≢ call) ↔ StandsOther call opid fs
others_of call opid fs f one = (
  λ other g on s mine. other (sym (ap (λ (y : Flown). y.call)
      (one.2 g on s)) ∙ mine),
  λ all. all f one.0 one.1,
)

differ : (a b : ℕ) → ((not (a == b)) ≡ true) ↔ (a ≢ b)
differ a b = (λ t same. true≢false (sym t ∙ ap not (eq-eqb a b same)), λ ne. ap not (ne_eqb a b ne))

pub others_tested : (call opid : ℕ) (fs : List Flown) (f : Flown) → IsTheOne opid fs (Some f)
    → ((not (f.call == call)) ≡ true) ↔ StandsOther call opid fs
others_tested call opid fs f one = (
  λ t. (others_of call opid fs f one).0 ((differ f.call call).0 t),
  λ all.
      (differ f.call call).1 ((others_of call opid fs f one).1 all),
)

others_none : (call opid : ℕ) (fs : List Flown) → IsTheOne opid fs None → StandsOther call opid fs
others_none call opid fs none g on s = absurd (none g on s)

-- no work waits for a call where none is found
idle_where : (flights : Flights) (call : ℕ) → IsNameBy has_call flights call None
    → IsIdle call flights
idle_where flights call named n = by (has_call (fin.get flights n) call) refl
  where
    by : (t : Bool) → has_call (fin.get flights n) call ≡ t
        → has_call (fin.get flights n) call ≡ false
    by false is = is
    by true is = let no : None ≡ Some n = (named n).1 is in absurd (cc)

not_idle : (flights : Flights) (call : ℕ) (n : Name) → IsNameBy has_call flights call (Some n)
    → IsIdle call flights → ⊥
not_idle flights call n named idle = true≢false (sym ((named n).0 refl) ∙ idle n)

-- a call for whose work is found began something
pub not_fresh : (log : Log) (t : Traffic) (call : ℕ) (n : Name)
    → IsNameBy has_call t.flights call (Some n) → IsFresh log t call → ⊥
not_fresh log t call n named fresh = not_idle t.flights call n named fresh.idle

-- a call for which no work is found, and of which no message is on the wire, did not
pub fresh_where : (log : Log) (t : Traffic) (call : ℕ) (sent act : Bool)
    → IsNameBy has_call t.flights call None → sent ≡ list_any (is_owned call) t.messages
    → sent ≡ false
    → (act ≡ true) ↔ MayStillAct call log → (act ≡ true) ↔ IsFresh log t call
fresh_where log t call sent act named is silent may = (
  λ m. record {
    idle = idle_where t.flights call named;
    silent = sym is
        ∙ silent;
    may = may.0 m;
  },
  λ fresh. may.1 fresh.may,
)

-- ---- what is held up

one_busy : (a b : Busy) → Some a ≡ Some b → a ≡ b
one_busy a b e = cc

-- what stands on the name is the call's own
pub not_held : (log : Log) (calls : Calls) (t : Traffic) (call : ℕ) (name : Name) (y : Want)
    (b d : Busy) → Some b ≡ busy_at (fin.get t.flights name) y
    → (StandsOther call b.opid calls.flown → ⊥)
    → IsHeldUp log calls t call name y d → ⊥
not_held log calls t call name y b d busy own held = own (subst (λ
    (x : Busy). StandsOther call x.opid calls.flown) (one_busy d b (sym held.busy
    ∙ sym busy)) held.other)

-- ---- the group behind it

module _ (stores : Stores) (log after : Log) (t u : TableView) (w x : WiresView) (start : TheStart)
    (agent : TheAgent) (base : BaseView) (turn : Turn) (name : Name) (y : Want)
    (way : Option Path) where
  abbrev Old : GroupView
  Old = group_of stores log t.calls w.traffic start agent

  abbrev New : GroupView
  New = group_of stores after u.calls x.traffic start agent

  -- what it leaves of a group
  pub record IsBlockedIn (busy : Option Busy) : Type 0 where
    pub kept : IsKept New base u
    pub is : Blocks turn name y way Old New busy
    pub step : KeepsQuietly Old New

  pub block_all : IsKept Old base t → MayWant Old turn name y way → (busy : Option Busy)
      → TellsHeld log t.calls w.traffic turn.call name y busy
      → BlocksParts turn way busy log after t u w x → IsBlockedIn busy
  block_all h may (Some b) held e =
      let l : Logged = blocked_here turn (length log.acts) b way in
      let m : GroupView = ended_call turn.call (Some l) x.traffic.flights e.dropped Old in
      let quiet : KeepsQuietly Old m = blocked_quietly Old turn name y way b h.whole may held
      x.traffic.flights e.dropped e.reads e.goes e.left in
      record {
        kept = end_kept stores log after t u w x start agent base turn.call
            (Some l) e.dropped e.logged e.calls e.wires h quiet;
        is = (
          held,
          end_is stores log after t u w x start agent base turn.call
              (Some l) e.dropped e.logged e.calls e.wires e.goes e.left,
        );
        step = end_step stores log after t u w x start agent base turn.call
            (Some l) e.dropped e.logged e.calls e.wires quiet;
      }
  block_all h may None held e =
      let same : New ≡ Old =
      ap (λ (l : Log). group_of stores l u.calls x.traffic start agent) e.0
      ∙ ap (λ (z : TableView). group_of stores log z.calls x.traffic start agent) e.1
      ∙ ap (λ (z : WiresView). group_of stores log t.calls z.traffic start agent) e.2 in
      record {
        kept = subst (λ (v : GroupView). IsKept v base u) (sym same) (subst (λ
            (z : TableView). IsKept Old base z) (sym e.1) h);
        is = (same, held);
        step = subst (KeepsQuietly Old) (sym same) (nothing_quietly Old h.whole);
      }
