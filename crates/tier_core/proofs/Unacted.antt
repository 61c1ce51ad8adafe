-- A write request that does not act is answered from a record of the cache.
use Rattle.std.proofs.Common.{◌≡◌, ◌≤◌, inr, ℕ, true, List, [], ◌∷◌, length, Option, Some, refl, sym, ap, subst, ◌∙◌, arith}
use Rattle.std.specs.Prelude.{Result, Ok, Err}
use Rattle.agent_state.specs.declared.totals.Share.{Share}
use Rattle.obj_model.specs.Limits.{number_limit}
use Rattle.obj_model.specs.declared.reply.Kept.{Kept}
use Rattle.obj_model.specs.declared.reply.Reply.{Reply}
use Rattle.obj_model.specs.declared.reply.Reply.TheVariants as reply
use Rattle.obj_model.specs.declared.req.Req.{Req}
use Rattle.obj_model.specs.declared.state.NameState.{NameState}
use Rattle.obj_model.specs.declared.tier.Path.TheVariants.{Hit}
use Rattle.obj_ops.proofs.Cases.{act_cases}
use Rattle.obj_ops.specs.Acts.{act, acted}
use Rattle.obj_ops.specs.Ops.{Refusal, Run, run}
use Rattle.obj_ops.specs.Stores.{Store}
use Rattle.obj_ops.specs.declared.request.Acted.{Acted}
use Rattle.obj_ops.specs.declared.request.Acted.TheVariants.{Fresh, Again, Stale, Worn}
use Rattle.tier_chron.specs.Calls.{call_of}
use Rattle.tier_chron.specs.Fits.{HasReply, TellsCall, TellsWrite}
use Rattle.tier_chron.specs.Shapes.{HasNoAct, IsBegun, NumbersAgree, Stands, StandsBeside, may_answer, may_go}
use Rattle.tier_chron.specs.declared.answer.Answer.{Answer}
use Rattle.tier_chron.specs.declared.asked.Asked.{Asked}
use Rattle.tier_chron.specs.declared.asked.Asked.TheVariants.{Write}
use Rattle.tier_chron.specs.declared.entries.Act.{Act}
use Rattle.tier_chron.specs.declared.entries.Logged.{Logged}
use Rattle.tier_join.specs.Group.{BothTell}
use Rattle.tier_types.specs.declared.record.TierRec.{TierRec}
use Rattle.tier_view.specs.Answered.{HasFaultCause, IsAnswerOf, kept_answer}
use Rattle.tier_view.specs.Answers.{ended_calls}
use Rattle.tier_view.specs.Calls.{Calls, call_in}
use Rattle.tier_view.specs.declared.parts.Entry.{Entry}
use Rattle.tier_view.specs.Laws.{HasAsked}
use Rattle.tier_view.specs.Views.{GroupView, asking_of, calls_in, joined}
use Rattle.tier_view.specs.Whole.{HasCause, IsWhole}
use Rattle.tier_view.specs.Worlds.{Began}
use Rattle.tier_view.proofs.AnsweringActs.{found_holds}
use Rattle.tier_view.proofs.AnsweringClosing.{records_may_close_now}
use Rattle.tier_view.proofs.AnsweringFaults.{call_found, counted_with, entries_may_log}
use Rattle.tier_view.proofs.LocalFacts.{records_tell_truth}
use Rattle.tier_core.specs.Ends.{MayAnswer}
use Rattle.tier_core.specs.Serves.{IsHit, IsUnacted, answered_here}
use Rattle.tier_core.specs.Turns.{IsTurn}
use Rattle.tier_core.specs.declared.turns.Turn.{Turn}

-- ---- the call

-- the call of a turn asked this request, on its line
pub turn_asked : (v : GroupView) (turn : Turn) (q : Req) → IsTurn v turn (Write q) → HasAsked v turn.call turn.line q
turn_asked v turn q is =
    ap asking_of (call_found v.calls.entries turn.call is.entry is.is)
    ∙ ap (λ (a : Asked). asking_of (Some (record { number = is.entry.number; line = is.entry.line; begin = is.entry.begin; asked = a }))) is.asked_is
    ∙ ap (λ (o : Option ℕ). asking_of (Some (record { number = is.entry.number; line = o; begin = is.entry.begin; asked = Write q }))) is.turn_is.line

-- it began at no more acts than there are
pub turn_seen : (v : GroupView) (turn : Turn) (a : Asked) → IsWhole v → IsTurn v turn a → turn.begin ≤ length v.log.acts
turn_seen v turn a whole is =
    let begun : IsBegun v.log.acts (call_in is.entry) = found_holds (IsBegun v.log.acts) v.calls.entries turn.call is.entry whole.shaped.begun is.is in
    subst (λ n. n ≤ length v.log.acts) is.turn_is.begin begun.begun

-- a call without an act has every reply
any_reply : (call : ℕ) (given : Reply) (acts : List Act) → HasNoAct call acts → HasReply call given acts
any_reply call given [] h = tt
any_reply call given (a ∷ acts) h = (λ same. absurd (h.0 same), any_reply call given acts h.1)

-- ---- the answers

-- a request is worn out at the limit of all numbers
worn_acted : (s : NameState) (q : Req) (x : Result Run Refusal) (limit : ℕ) → acted s q x ≡ Worn limit → limit ≡ number_limit
worn_acted s q (Ok x) limit is = absurd (cc)
worn_acted s q (Err e) limit is = absurd (cc)

worn_out : (limit most : ℕ) → Worn most ≡ Worn limit → limit ≡ most
worn_out limit most is = cc

worn_at_limit : (s : NameState) (q : Req) (limit : ℕ) → act s q ≡ Worn limit → limit ≡ number_limit
worn_at_limit s q limit =
    act_cases (λ (a : Acted). a ≡ Worn limit → limit ≡ number_limit) s q (λ (k : Kept) e less is. absurd (cc)) (λ (k : Kept) e same is. absurd (cc))
    (λ e newer is. worn_out limit number_limit is) (λ room newer is. worn_acted s q (run s.ver q.vector s.obj) limit is)

-- what is known of such an answer
record IsToldHere (v : GroupView) (turn : Turn) (q : Req) (s : NameState) (x : Answer) : Type 0 where
  kind : may_answer (Write q) x ≡ true
  numbers : NumbersAgree x
  way : may_go (Write q) x (Some Hit) ≡ true
  beside : StandsBeside v.log.acts q (answered_here turn v.log x) x
  fault : HasFaultCause v (answered_here turn v.log x) x
  cause : (i : ℕ) (calls : Calls) (share : Share) (epoch : ℕ) → HasCause i calls share epoch (answered_here turn v.log x) x
  tells : TellsWrite s v.log.acts q (answered_here turn v.log x) x

kept_is_told : (v : GroupView) (turn : Turn) (q : Req) (s : NameState) (given : Reply) → HasNoAct turn.call v.log.acts → act s q ≡ Again given → IsToldHere v turn q s (kept_answer given)
kept_is_told v turn q s (reply.Done ver) none is = record {
  kind = refl;
  numbers = tt;
  way = refl;
  beside = tt;
  fault = tt;
  cause = λ i calls share epoch. tt;
  tells = record { again = is; same = any_reply turn.call (reply.Done ver) v.log.acts none };
}
kept_is_told v turn q s (reply.Refused at why ver) none is = record {
  kind = refl;
  numbers = tt;
  way = refl;
  beside = tt;
  fault = tt;
  cause = λ i calls share epoch. tt;
  tells = record { again = is; same = any_reply turn.call (reply.Refused at why ver) v.log.acts none };
}

unacted_is_told : (v : GroupView) (turn : Turn) (q : Req) (s : NameState) (a : Acted) (x : Answer) → HasNoAct turn.call v.log.acts → act s q ≡ a → IsUnacted a x → IsToldHere v turn q s x
unacted_is_told v turn q s (Fresh t given) x none is told = absurd told
unacted_is_told v turn q s (Again given) x none is told = subst (IsToldHere v turn q s) (sym told) (kept_is_told v turn q s given none is)
unacted_is_told v turn q s (Stale kept) x none is told =
    subst (IsToldHere v turn q s) (sym told) (record {
      kind = refl;
      numbers = tt;
      way = refl;
      beside = tt;
      fault = tt;
      cause = λ i calls share epoch. tt;
      tells = record { stale = is; none = none };
    })
unacted_is_told v turn q s (Worn limit) x none is told =
    subst (IsToldHere v turn q s) (sym told) (record {
      kind = refl;
      numbers = worn_at_limit s q limit is;
      way = refl;
      beside = tt;
      fault = tt;
      cause = λ i calls share epoch. tt;
      tells = tt;
    })

-- ---- the call may end with it

module _ (v : GroupView) (turn : Turn) (q : Req) (r : TierRec) (x : Answer) (whole : IsWhole v) (hit : IsHit v turn q r) (unacted : IsUnacted (act r.state q) x) where
  abbrev L : Logged
  L = answered_here turn v.log x

  abbrev E : Entry
  E = hit.is_turn.entry

  told : IsToldHere v turn q r.state x
  told = unacted_is_told v turn q r.state (act r.state q) x hit.actless refl unacted

  answers : IsAnswerOf v E L
  answers = record {
    entry = hit.is_turn.is;
    going = hit.is_turn.turn_is.going;
    line = hit.is_turn.turn_is.line;
    begin = hit.is_turn.turn_is.begin;
    seen = turn_seen v turn (Write q) whole hit.is_turn;
    done = omega arith;
    now = refl;
    kind = subst (λ (a : Asked). may_answer a x ≡ true) (sym hit.is_turn.asked_is) told.kind;
    numbers = told.numbers;
    way = subst (λ (a : Asked). may_go a x (Some Hit) ≡ true) (sym hit.is_turn.asked_is) told.way;
    beside = subst (λ (a : Asked). Stands v.log.acts a L) (sym hit.is_turn.asked_is) told.beside;
  }

  truth : (start : Store) → BothTell (joined v) → Began start v → TellsCall start v.log.acts L (call_of (calls_in v.calls.entries) turn.call)
  truth start tell began =
      subst (TellsCall start v.log.acts L) (sym (call_found v.calls.entries turn.call E hit.is_turn.is))
      (subst (λ (a : Asked). TellsCall start v.log.acts L (Some (record { number = E.number; line = E.line; begin = E.begin; asked = a }))) (sym hit.is_turn.asked_is)
      ((records_tell_truth start v q.name r (length v.log.acts) tell began hit.settled hit.has refl).writes q L told.tells))

  pub unacted_may : MayAnswer v L
  unacted_may = λ dropped. (
    record {
      own = refl;
      may = entries_may_log v E L whole answers;
      cause = told.cause (length v.log.answers) (ended_calls (length v.log.answers) turn.call dropped v.calls) v.agent.share v.standing.cache_epoch;
      counted = counted_with v L whole told.fault;
    },
    record { tells = truth; good = inr (records_may_close_now v turn.call turn.line q r hit.settled hit.up (turn_asked v turn q hit.is_turn) hit.has) },
  )

-- the answer that is made is this one
pub answered_is : (v : GroupView) (turn : Turn) (count : ℕ) (x : Answer) → count ≡ length v.log.acts
    → ◌≡◌ {A = Logged} (record { call = turn.call; line = turn.line; begin = turn.begin; place = count; end = count; path = Some Hit; answer = x }) (answered_here turn v.log x)
answered_is v turn count x counted =
    ap {A = ℕ} {B = Logged} (λ n. record { call = turn.call; line = turn.line; begin = turn.begin; place = n; end = n; path = Some Hit; answer = x }) counted
