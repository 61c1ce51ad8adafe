-- A client's call is served from a record of the cache.
use Rattle.std.proofs.Common.{◌≡◌, Bool, true, false, if◌then◌else◌, inl, ℕ, cond, ◌==◌, List, [], ◌∷◌, Option, Some, None, refl, sym, ap, subst}
use Rattle.std.specs.Prelude.{Result, Ok, Err, OnOk, OnErr}
use Rattle.std.specs.FinMap as fin
use Rattle.std.specs.List.{AllByRecursion}
use Rattle.std.specs.Option.{option_map}
use Rattle.cache_pool.specs.Puts.{record_put}
use Rattle.obj_model.specs.declared.reply.Reply.{Reply}
use Rattle.obj_model.specs.declared.req.Req.{Req}
use Rattle.obj_model.specs.declared.state.NameState.{NameState}
use Rattle.obj_ops.specs.Acts.{act}
use Rattle.obj_ops.specs.declared.request.Acted.{Acted}
use Rattle.obj_ops.specs.declared.request.Acted.TheVariants.{Fresh, Again, Stale, Worn}
use Rattle.store_face.proofs.Later.{stays_same}
use Rattle.store_face.specs.declared.fault.StoreFault.TheVariants.{NoMemory}
use Rattle.tier_chron.specs.Logs.{is_opened}
use Rattle.tier_chron.specs.declared.answer.Answer.{Answer}
use Rattle.tier_chron.specs.declared.asked.Asked.{Asked}
use Rattle.tier_chron.specs.declared.entries.First.{First}
use Rattle.tier_join.specs.declared.doubt.Doubt.{Doubt}
use Rattle.tier_join.specs.Promises.{as_it_is}
use Rattle.tier_join.specs.Steps.{with_doubt}
use Rattle.tier_rec.specs.Records.{acted_record}
use Rattle.tier_types.specs.Flights.{lets_write}
use Rattle.tier_types.specs.declared.record.TierRec.{TierRec}
use Rattle.tier_view.specs.Answers.{KeepsQuietly}
use Rattle.tier_view.specs.Calls.{IsGoing, entry_of}
use Rattle.tier_view.specs.Delivers.{IsFirstOf}
use Rattle.tier_view.specs.Laws.{Keeps}
use Rattle.tier_view.specs.Locals.{ActsHere, with_cache}
use Rattle.tier_view.specs.Stores.{doubt_in}
use Rattle.tier_view.specs.Views.{GroupView}
use Rattle.tier_view.specs.Whole.{IsWhole}
use Rattle.tier_view.specs.declared.parts.Entry.{Entry}
use Rattle.tier_view.specs.declared.parts.Pending.{Pending}
use Rattle.tier_view.proofs.Answering.{quiet_is_step}
use Rattle.tier_view.proofs.AnsweringFaults.{one_entry}
use Rattle.tier_view.proofs.LocalFrees.{leaving_cache_keeps}
use Rattle.tier_core.specs.Acts.{first_for}
use Rattle.tier_core.specs.Ends.{IsEnded}
use Rattle.tier_core.specs.Keeps.{MayBeAsked}
use Rattle.tier_core.specs.Serves.{Answers, IsHit, ServesWrite, answered_here, as_outcome}
use Rattle.tier_core.specs.Turns.{IsTurn}
use Rattle.tier_core.specs.declared.turns.Turn.{Turn}
use Rattle.tier_core.proofs.ActedHere.{unput}
use Rattle.tier_core.proofs.Unacted.{turn_asked}

-- ---- steps that act on nothing

-- nothing is in doubt, so a group with its own store is itself
same_group : (v : GroupView) → v.stores.pending ≡ None → v ≡ with_cache v.stores.cache None v
same_group v none = ap (λ (p : Option Pending). record v { stores = record v.stores { pending = p } }) none

pub stays_step : (v : GroupView) → IsWhole v → v.stores.pending ≡ None → Keeps as_it_is None v v
stays_step v whole none =
    subst (Keeps as_it_is None v) (sym (same_group v none)) (leaving_cache_keeps v v.stores.cache whole none (record { moments = refl; later = inl (stays_same v.stores.cache) }))

pub quiet_step : (v w : GroupView) → v.stores.pending ≡ None → KeepsQuietly v w → Keeps as_it_is None v w
quiet_step v w none quiet =
    subst (λ (d : Option Doubt). Keeps (with_doubt d) None v w) (ap (option_map doubt_in) none) (quiet_is_step v w quiet)

-- a call that only memory can fail answers, or nothing has changed
pub answers_as : {E : Type 0} (turn : Turn) (x : Answer) (v w : GroupView) (made : Result (Unit {0}) E) → OnOk made (IsEnded turn.call (Some (answered_here turn v.log x)) v w) → OnErr made (w ≡ v)
    → Answers turn x v w (as_outcome made)
answers_as turn x v w (Ok done) ended same = ended
answers_as turn x v w (Err other) ended same = (refl, same)

pub answers_step : {E : Type 0} (v w : GroupView) (made : Result (Unit {0}) E) → IsWhole v → v.stores.pending ≡ None → OnOk made (KeepsQuietly v w) → OnErr made (w ≡ v)
    → Keeps as_it_is None v w
answers_step v w (Ok done) whole none quiet same = quiet_step v w none quiet
answers_step v w (Err other) whole none quiet same = subst (Keeps as_it_is None v) (sym same) (stays_step v whole none)

-- ---- a request that acts

first_if : (opening : List First) (name : List ℕ) (s : NameState) (there : Bool) → is_opened opening name ≡ there → IsFirstOf opening name s (if there then None else Some (record { name = name; state = s }))
first_if opening name s true is = is
first_if opening name s false is = (is, refl, refl)

first_is : (opening : List First) (name : List ℕ) (s : NameState) → IsFirstOf opening name s (first_for opening name s)
first_is opening name s = first_if opening name s (is_opened opening name) refl

pub hit_acts : (v : GroupView) (turn : Turn) (q : Req) (r : TierRec) (t : NameState) (given : Reply) → IsHit v turn q r → lets_write (fin.get v.traffic.flights q.name) ≡ true → act r.state q ≡ Fresh t given
    → ActsHere v turn.call turn.line q r t given (first_for v.log.opening q.name r.state)
hit_acts v turn q r t given hit lets acts = record {
  up = hit.up;
  lets = lets;
  on = record {
    acts = acts;
    asked = turn_asked v turn q hit.is_turn;
    going = subst (λ (o : Option Entry). IsGoing o) (sym hit.is_turn.is) hit.is_turn.turn_is.going;
    actless = hit.actless;
    opening = first_is v.log.opening q.name r.state;
  };
}

-- ---- without memory

pub unwritten : (v : GroupView) (turn : Turn) (q : Req) (r : TierRec) (t : NameState) (given : Reply) → v.stores.pending ≡ None → ServesWrite turn q r (Fresh t given) v v (Err NoMemory)
unwritten v turn q r t given none = record {
  written = same_group v none;
  put = unput (record_put q.name (acted_record t v.agent.moment)) v.stores.cache;
  there = tt;
}

-- whatever the request does
pub unserved : (v : GroupView) (turn : Turn) (q : Req) (r : TierRec) (x : Acted) → v.stores.pending ≡ None → ServesWrite turn q r x v v (Err NoMemory)
unserved v turn q r (Fresh t given) none = unwritten v turn q r t given none
unserved v turn q r (Again given) none = (refl, refl)
unserved v turn q r (Stale kept) none = (refl, refl)
unserved v turn q r (Worn limit) none = (refl, refl)

-- ---- what was asked is within its limits

find_step : (b : Bool) (d e : Entry) (o : Option Entry) → MayBeAsked d.asked → (o ≡ Some e → MayBeAsked e.asked) → cond b (Some d) o ≡ Some e → MayBeAsked e.asked
find_step true d e o h rest k = subst (λ (x : Entry). MayBeAsked x.asked) (one_entry d e k) h
find_step false d e o h rest k = rest k

find_lawful : (es : List Entry) (n : ℕ) (e : Entry) → AllByRecursion (λ (x : Entry). MayBeAsked x.asked) es → entry_of es n ≡ Some e → MayBeAsked e.asked
find_lawful [] n e h is = absurd (cc)
find_lawful (d ∷ es) n e h is = find_step (d.number == n) d e (entry_of es n) h.0 (find_lawful es n e h.1) is

pub asked_lawful : (v : GroupView) (turn : Turn) (a : Asked) → AllByRecursion (λ (x : Entry). MayBeAsked x.asked) v.calls.entries → IsTurn v turn a → MayBeAsked a
asked_lawful v turn a h is = subst MayBeAsked is.asked_is (find_lawful v.calls.entries turn.call is.entry h is.is)
