-- A reading is answered from a record of the cache.
use Rattle.std.proofs.Common.{◌≡◌, ◌≤◌, inr, ℕ, true, false, List, length, Option, Some, None, refl, sym, ap, subst, ◌∙◌, arith}
use Rattle.agent_state.specs.declared.totals.Share.{Share}
use Rattle.obj_model.specs.declared.state.NameState.{NameState}
use Rattle.obj_model.specs.declared.sub_op.SubOp.{SubOp}
use Rattle.obj_model.specs.declared.tier.Path.TheVariants.{Hit}
use Rattle.obj_ops.specs.Acts.{look}
use Rattle.obj_ops.specs.Stores.{Store}
use Rattle.obj_ops.specs.declared.reading.Looked.{Looked}
use Rattle.obj_ops.specs.declared.reading.Looked.TheVariants as looked
use Rattle.tier_chron.specs.Calls.{call_of}
use Rattle.tier_chron.specs.Fits.{TellsCall, TellsRead}
use Rattle.tier_chron.specs.Shapes.{IsBegun, NumbersAgree, Stands, may_answer, may_go}
use Rattle.tier_chron.specs.declared.answer.Answer.{Answer}
use Rattle.tier_chron.specs.declared.asked.Asked.{Asked}
use Rattle.tier_chron.specs.declared.asked.Asked.TheVariants.{Read}
use Rattle.tier_chron.specs.declared.entries.Logged.{Logged}
use Rattle.tier_join.specs.Group.{BothTell}
use Rattle.tier_join.specs.Steps.{HasRec}
use Rattle.tier_types.specs.declared.record.TierRec.{TierRec}
use Rattle.tier_view.specs.Answered.{HasFaultCause, IsAnswerOf, looked_answer}
use Rattle.tier_view.specs.Answers.{ended_calls}
use Rattle.tier_view.specs.Calls.{Calls, call_in}
use Rattle.tier_view.specs.Views.{GroupView, asking_of, calls_in, joined}
use Rattle.tier_view.specs.Whole.{HasCause, IsWhole}
use Rattle.tier_view.specs.Worlds.{Began}
use Rattle.tier_view.proofs.AnsweringActs.{found_holds}
use Rattle.tier_view.proofs.AnsweringClosing.{readers_may_close_now}
use Rattle.tier_view.proofs.AnsweringFaults.{call_found, counted_with, entries_may_log}
use Rattle.tier_view.proofs.LocalFacts.{records_tell_truth}
use Rattle.tier_core.specs.Ends.{MayAnswer}
use Rattle.tier_core.specs.Turns.{IsTurn, looked_here}
use Rattle.tier_core.specs.declared.turns.Turn.{Turn}

-- ---- what a reading is told

may_be_told : (client : ℕ) (name : List ℕ) (vector : List SubOp) (x : Looked) → may_answer (Read client name vector) (looked_answer x) ≡ true
may_be_told client name vector (looked.Values ver outs) = refl
may_be_told client name vector (looked.Refused at why ver) = refl

goes_here : (client : ℕ) (name : List ℕ) (vector : List SubOp) (x : Looked) → may_go (Read client name vector) (looked_answer x) (Some Hit) ≡ true
goes_here client name vector (looked.Values ver outs) = refl
goes_here client name vector (looked.Refused at why ver) = refl

no_numbers : (x : Looked) → NumbersAgree (looked_answer x)
no_numbers (looked.Values ver outs) = tt
no_numbers (looked.Refused at why ver) = tt

no_fault : (v : GroupView) (l : Logged) (x : Looked) → HasFaultCause v l (looked_answer x)
no_fault v l (looked.Values ver outs) = tt
no_fault v l (looked.Refused at why ver) = tt

no_cause : (i : ℕ) (calls : Calls) (share : Share) (epoch : ℕ) (l : Logged) (x : Looked) → HasCause i calls share epoch l (looked_answer x)
no_cause i calls share epoch l (looked.Values ver outs) = tt
no_cause i calls share epoch l (looked.Refused at why ver) = tt

tells : (s : NameState) (vector : List SubOp) (x : Looked) → look s vector ≡ x → TellsRead s vector (looked_answer x)
tells s vector (looked.Values ver outs) is = is
tells s vector (looked.Refused at why ver) is = is

-- ---- the answer

module _ (v : GroupView) (turn : Turn) (client : ℕ) (name : List ℕ) (vector : List SubOp) (r : TierRec)
    (whole : IsWhole v) (none : v.stores.pending ≡ None) (is : IsTurn v turn (Read client name vector)) (has : HasRec (joined v) name (Some r)) where
  abbrev L : Logged
  L = looked_here turn v.log r.state vector

  -- the call, as the history knows it
  found : call_of (calls_in v.calls.entries) turn.call ≡ Some (call_in is.entry)
  found = call_found v.calls.entries turn.call is.entry is.is

  begun : IsBegun v.log.acts (call_in is.entry)
  begun = found_holds (IsBegun v.log.acts) v.calls.entries turn.call is.entry whole.shaped.begun is.is

  seen : turn.begin ≤ length v.log.acts
  seen = subst (λ n. n ≤ length v.log.acts) is.turn_is.begin begun.begun

  answers : IsAnswerOf v is.entry L
  answers = record {
    entry = is.is;
    going = is.turn_is.going;
    line = is.turn_is.line;
    begin = is.turn_is.begin;
    seen = seen;
    done = omega arith;
    now = refl;
    kind = subst (λ (a : Asked). may_answer a L.answer ≡ true) (sym is.asked_is) (may_be_told client name vector (look r.state vector));
    numbers = no_numbers (look r.state vector);
    way = subst (λ (a : Asked). may_go a L.answer (Some Hit) ≡ true) (sym is.asked_is) (goes_here client name vector (look r.state vector));
    beside = subst (λ (a : Asked). Stands v.log.acts a L) (sym is.asked_is) tt;
  }

  -- a call that reads asks no write request
  no_asking : asking_of (call_of (calls_in v.calls.entries) turn.call) ≡ None
  no_asking =
      ap asking_of found
      ∙ ap (λ (a : Asked). asking_of (Some (record { number = is.entry.number; line = is.entry.line; begin = is.entry.begin; asked = a }))) is.asked_is

  truth : (start : Store) → BothTell (joined v) → Began start v → TellsCall start v.log.acts L (call_of (calls_in v.calls.entries) turn.call)
  truth start told began =
      subst (TellsCall start v.log.acts L) (sym found)
      (subst (λ (a : Asked). TellsCall start v.log.acts L (Some (record { number = is.entry.number; line = is.entry.line; begin = is.entry.begin; asked = a }))) (sym is.asked_is)
      ((records_tell_truth start v name r (length v.log.acts) told began none has refl).reads vector L.answer (tells r.state vector (look r.state vector) refl)))

  pub looked_may : MayAnswer v L
  looked_may = λ dropped. (
    record {
      own = refl;
      may = entries_may_log v is.entry L whole answers;
      cause = no_cause (length v.log.answers) (ended_calls (length v.log.answers) turn.call dropped v.calls) v.agent.share v.standing.cache_epoch L (look r.state vector);
      counted = counted_with v L whole (no_fault v L (look r.state vector));
    },
    record { tells = truth; good = inr (readers_may_close_now v turn.call whole no_asking) },
  )

-- the answer that is made is this one
pub logged_is : (v : GroupView) (turn : Turn) (vector : List SubOp) (r : TierRec) (count : ℕ) (x : Answer) → count ≡ length v.log.acts → x ≡ looked_answer (look r.state vector)
    → ◌≡◌ {A = Logged} (record { call = turn.call; line = turn.line; begin = turn.begin; place = count; end = count; path = Some Hit; answer = x }) (looked_here turn v.log r.state vector)
logged_is v turn vector r count x counted told =
    ap {A = ℕ} {B = Logged} (λ n. record { call = turn.call; line = turn.line; begin = turn.begin; place = n; end = n; path = Some Hit; answer = x }) counted
    ∙ ap {A = Answer} {B = Logged} (λ y. record { call = turn.call; line = turn.line; begin = turn.begin; place = length v.log.acts; end = length v.log.acts; path = Some Hit; answer = y }) told
