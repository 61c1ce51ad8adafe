-- It is told that the cache is full.
use Rattle.std.proofs.Common.{◌≡◌, inl, inr, ℕ, zero, suc, Bool, true, false, not, if◌then◌else◌, ◌==◌, List, length, Option, Some, None, refl, sym, ap, subst, ◌∙◌, arith}
use Rattle.std.specs.FinMap as fin
use Rattle.agent_state.specs.declared.modes.Modes.{Modes}
use Rattle.obj_model.specs.declared.req.Req.{Req}
use Rattle.obj_model.specs.declared.tier.Mode.{Mode}
use Rattle.obj_model.specs.declared.tier.Mode.TheVariants.{Writeback, Readproxy, Proxy}
use Rattle.obj_model.specs.declared.tier.Path.{Path}
use Rattle.obj_model.specs.declared.tier.Path.TheVariants.{Promote, ProxyRead, ProxyWrite}
use Rattle.obj_ops.specs.Stores.{Store}
use Rattle.tier_chron.specs.Calls.{Call, call_of}
use Rattle.tier_chron.specs.Fits.{TellsCall, TellsTruth}
use Rattle.tier_chron.specs.Laws.{MayLog}
use Rattle.tier_chron.specs.Shapes.{IsAnswered, Stands, may_answer, may_go}
use Rattle.tier_chron.specs.declared.answer.Answer.TheVariants as answer
use Rattle.tier_chron.specs.declared.asked.Asked.{Asked}
use Rattle.tier_chron.specs.declared.asked.Asked.TheVariants.{Write, Read, Flush, Finish, Evict, Drain, Agent, Start}
use Rattle.tier_chron.specs.declared.entries.Act.{Act}
use Rattle.tier_chron.specs.declared.entries.Logged.{Logged}
use Rattle.tier_core.proofs.Blocked.{owning_now}
use Rattle.tier_core.proofs.Unacted.{turn_asked, turn_seen}
use Rattle.tier_core.specs.Ends.{IsEnded, MayAnswer}
use Rattle.tier_core.specs.declared.turns.Turn.{Turn}
use Rattle.tier_moves.specs.Asks.{writes}
use Rattle.tier_moves.specs.Stands.{stand_of}
use Rattle.tier_moves.specs.Ways.{IsFullCache, MayGo, MayGoBy, MayTellFull, TellsFull, full_here, way_of}
use Rattle.tier_moves.specs.declared.begun.Begun.TheVariants.{Answered}
use Rattle.tier_moves.specs.declared.standing.Stand.TheVariants.{Clear}
use Rattle.tier_route.specs.declared.routing.Routed.{Routed}
use Rattle.tier_route.specs.declared.routing.Routed.TheVariants.{Go, Full}
use Rattle.tier_types.specs.declared.flight.Ask.{Ask}
use Rattle.tier_types.specs.declared.flight.Flight.{Flight}
use Rattle.tier_view.proofs.AnsweringFaults.{counted_with, entries_may_log}
use Rattle.tier_view.specs.Answered.{IsAnswerOf}
use Rattle.tier_view.specs.Views.{GroupView, calls_in}
use Rattle.tier_view.specs.Whole.{IsWhole}

-- ---- it may be logged

-- it tells nothing of objects
full_tells : (start : Store) (acts : List Act) (asked : Asked) (l : Logged) (micro : ℕ)
    → l.answer ≡ answer.Full micro → TellsTruth start acts asked l
full_tells start acts (Write req) l micro is = cc
full_tells start acts (Read client name vector) l micro is = cc
full_tells start acts (Flush name blocking begin_only) l micro is = tt
full_tells start acts (Finish name) l micro is = tt
full_tells start acts (Evict name) l micro is = tt
full_tells start acts Drain l micro is = tt
full_tells start acts Agent l micro is = tt
full_tells start acts Start l micro is = tt

full_true : (start : Store) (acts : List Act) (l : Logged) (c : Option Call) (micro : ℕ)
    → l.answer ≡ answer.Full micro → IsAnswered acts l c → TellsCall start acts l c
full_true start acts l None micro is h = absurd h
full_true start acts l (Some c) micro is h = full_tells start acts c.asked l micro is

module _ (v : GroupView) (turn : Turn) (whole : IsWhole v) (h : MayTellFull v turn) where
  abbrev L : Logged
  L = full_here turn (length v.log.acts) v.agent.modes.full_micro

  of_asked : (P : Asked → Type 0) → P (Write h.req) → P h.turn_is.entry.asked
  of_asked P p = subst P (sym h.turn_is.asked_is) p

  answers : IsAnswerOf v h.turn_is.entry L
  answers = record {
    entry = h.turn_is.is;
    going = h.turn_is.turn_is.going;
    line = h.turn_is.turn_is.line;
    begin = h.turn_is.turn_is.begin;
    seen = turn_seen v turn (Write h.req) whole h.turn_is;
    done = omega arith;
    now = refl;
    kind = of_asked (λ a. may_answer a L.answer ≡ true) refl;
    numbers = h.full.above;
    way = of_asked (λ a. may_go a L.answer None ≡ true) refl;
    beside = of_asked (λ a. Stands v.log.acts a L) h.unacted;
  }

  may : MayLog (calls_in v.calls.entries) v.log L
  may = entries_may_log v h.turn_is.entry L whole answers

  pub may_tell : MayAnswer v L
  may_tell dropped = (
    record {
      own = refl;
      may = may;
      cause = (h.full.above, h.full.target);
      counted = counted_with v L whole tt;
    },
    record {
      tells = λ start tell b.
          full_true start v.log.acts L (call_of (calls_in v.calls.entries) turn.call) _ refl
          may.answered;
      good = inr h.closes;
    },
  )

-- the answer that is made is this one
pub told_is : (v : GroupView) (turn : Turn) (acts : ℕ) (modes : Modes) (l : Logged)
    → acts ≡ length v.log.acts → modes ≡ v.agent.modes
    → l ≡ full_here turn acts modes.full_micro
    → l ≡ full_here turn (length v.log.acts) v.agent.modes.full_micro
told_is v turn acts modes l count same is =
    is
    ∙ (ap (λ (n : ℕ). full_here turn n modes.full_micro) count
    ∙ ap (λ (m : Modes). full_here turn (length v.log.acts) m.full_micro) same)

pub full_ends : (v w : GroupView) (turn : Turn) (l : Logged)
    → l ≡ full_here turn (length v.log.acts) v.agent.modes.full_micro
    → IsEnded l.call (Some l) v w → TellsFull turn v w (Answered turn.call)
full_ends v w turn l is h =
    inl (record {
      told_is = refl;
      ended = subst (λ (m : Logged). IsEnded m.call (Some m) v w) is h;
    })

-- ---- a way on which a cache is full

sets_first : (b : Bool) (way : Path)
    → (if b then None else Some (Go way)) ≡ Some Full → ⊥
sets_first true way is = absurd (cc)
sets_first false way is = absurd (cc)

write_is_full : (full : Bool) (mode : Mode) (count : ℕ) (write : Bool)
    → way_of full mode count write ≡ Some Full → (full ≡ true) × (write ≡ true)
write_is_full true Writeback count true is = (refl, refl)
write_is_full true Writeback count false is = absurd (cc)
write_is_full true Readproxy count true is = (refl, refl)
write_is_full true Readproxy count false is = absurd (cc)
write_is_full true Proxy count true is = absurd (cc)
write_is_full true Proxy count false is = absurd (cc)
write_is_full false Writeback zero write is = absurd (sets_first (not (0 == 0)) Promote is)
write_is_full false Writeback (suc n) true is =
    absurd (sets_first (not (suc n == 0)) ProxyWrite is)
write_is_full false Writeback (suc n) false is =
    absurd (sets_first (not (suc n == 0)) ProxyRead is)
write_is_full false Readproxy count true is = absurd (cc)
write_is_full false Readproxy count false is = absurd (cc)
write_is_full false Proxy count true is = absurd (cc)
write_is_full false Proxy count false is = absurd (cc)

-- ---- who may be told

-- no write request under way is this call's
none_drives : (call op : ℕ) (driver : Option ℕ) (q : Req) (f : Option Flight)
    → stand_of f true ≡ Clear → f ≡ Some (Flight.Write driver call op q) → ⊥
none_drives call op (Some d) q f clear is = absurd (cc)
none_drives call op None q f clear is = absurd (cc)

module _ (v : GroupView) (turn : Turn) where
  pub full_may : (ask : Ask) → MayGo v turn ask → IsFullCache v.agent → writes ask ≡ true
      → MayTellFull v turn
  full_may (Ask.Write req) h full does = record {
    req = req;
    turn_is = h.turn_is;
    full = full;
    unacted = h.fresh.may.first;
    closes = owning_now v turn.call turn.line req h.settled (turn_asked v turn req h.turn_is)
        (λ driver op q is. none_drives turn.call op driver q (fin.get v.traffic.flights req.name)
        h.clear is)
        h.fresh.silent;
  }
  full_may (Ask.Read client name vector) h full does = absurd (cc)

  pub may_go_by : (full : Bool) (ask : Ask) (way : Option Routed) → MayGo v turn ask
      → (full ≡ true → IsFullCache v.agent)
      → way ≡ way_of full v.agent.mode v.agent.values.hit_set_count (writes ask)
      → MayGoBy v turn way
  may_go_by full ask None h k is = tt
  may_go_by full ask (Some Full) h k is =
      let both = write_is_full full v.agent.mode v.agent.values.hit_set_count (writes ask) (sym is) in
      full_may ask h (k both.0) both.1
  may_go_by full ask (Some (Go way)) h k is = tt
