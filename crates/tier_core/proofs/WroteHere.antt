-- A request that acted on a record of the cache is answered.
use Rattle.std.proofs.Common.{◌≡◌, ◌≤◌, inl, inr, ℕ, true, List, length, Option, Some, None, refl, sym, ap, subst, ◌∙◌, arith}
use Rattle.std.specs.Prelude.{Ok, Err, OnOk}
use Rattle.std.specs.FinMap as fin
use Rattle.std.proofs.lemmas.List.{length_push}
use Rattle.agent_state.specs.declared.totals.Share.{Share}
use Rattle.cache_pool.specs.Puts.{Commits, IsSpelled, record_bytes, record_put}
use Rattle.obj_model.specs.declared.reply.Reply.{Reply}
use Rattle.obj_model.specs.declared.reply.Reply.TheVariants as reply
use Rattle.obj_model.specs.declared.req.Req.{Req}
use Rattle.obj_model.specs.declared.state.NameState.{NameState}
use Rattle.obj_model.specs.declared.tier.Path.TheVariants.{Hit}
use Rattle.obj_ops.specs.Stores.{Store}
use Rattle.pool_keys.specs.Keys.{record_key}
use Rattle.pool_keys.specs.Values.{IsRecOf}
use Rattle.store_face.specs.Calls.{Made}
use Rattle.store_face.specs.Tables.{Table}
use Rattle.store_face.specs.Views.{StoreView}
use Rattle.tier_chron.specs.Calls.{call_of}
use Rattle.tier_chron.specs.Fits.{TellsCall, TellsWrite}
use Rattle.tier_chron.specs.Places.{state_at}
use Rattle.tier_chron.specs.Shapes.{NumbersAgree, Stands, may_answer, may_go}
use Rattle.tier_chron.specs.declared.asked.Asked.{Asked}
use Rattle.tier_chron.specs.declared.asked.Asked.TheVariants.{Write}
use Rattle.tier_chron.specs.declared.entries.Act.{Act}
use Rattle.tier_chron.specs.declared.entries.First.{First}
use Rattle.tier_chron.specs.declared.entries.Logged.{Logged}
use Rattle.tier_join.proofs.Keys.{set_is}
use Rattle.tier_join.proofs.Left.{made_left}
use Rattle.tier_join.specs.Group.{BothTell}
use Rattle.tier_join.specs.Promises.{with_req}
use Rattle.tier_join.specs.Steps.{Has, HasRec, Outcome, sets}
use Rattle.tier_protocol.proofs.Cells.{get_here}
use Rattle.tier_rec.specs.Records.{acted_record}
use Rattle.tier_types.specs.declared.record.TierRec.{TierRec}
use Rattle.tier_view.specs.Answered.{HasFaultCause, IsAnswerOf, own_answer}
use Rattle.tier_view.specs.Answers.{KeepsQuietly, ended_calls}
use Rattle.tier_view.specs.Calls.{Calls}
use Rattle.tier_view.specs.Laws.{Keeps}
use Rattle.tier_view.specs.Locals.{acted_locally}
use Rattle.tier_view.specs.Views.{GroupView, calls_in, joined}
use Rattle.tier_view.specs.Whole.{HasCause, IsWhole}
use Rattle.tier_view.specs.Worlds.{Began}
use Rattle.tier_view.proofs.Answering.{steps_join_quiet}
use Rattle.tier_view.proofs.AnsweringActs.{own_acts_stand}
use Rattle.tier_view.proofs.AnsweringClosing.{records_may_close_now}
use Rattle.tier_view.proofs.AnsweringFaults.{call_found, counted_with, entries_may_log}
use Rattle.tier_view.proofs.LocalFacts.{last_act_is_placed}
use Rattle.tier_core.specs.Acts.{first_for}
use Rattle.tier_core.specs.Ends.{MayAnswer}
use Rattle.tier_core.specs.Turns.{IsTurn}
use Rattle.tier_core.specs.Writes.{own_act, wrote_here}
use Rattle.tier_core.specs.declared.turns.Turn.{Turn}
use Rattle.tier_core.proofs.ActedHere.{IsReady}

-- ---- what a write request is told by its own act

may_be_told : (r : Req) (x : Reply) → may_answer (Write r) (own_answer x) ≡ true
may_be_told r (reply.Done ver) = refl
may_be_told r (reply.Refused at why ver) = refl

goes_here : (r : Req) (x : Reply) → may_go (Write r) (own_answer x) (Some Hit) ≡ true
goes_here r (reply.Done ver) = refl
goes_here r (reply.Refused at why ver) = refl

no_numbers : (x : Reply) → NumbersAgree (own_answer x)
no_numbers (reply.Done ver) = tt
no_numbers (reply.Refused at why ver) = tt

no_fault : (v : GroupView) (l : Logged) (x : Reply) → HasFaultCause v l (own_answer x)
no_fault v l (reply.Done ver) = tt
no_fault v l (reply.Refused at why ver) = tt

no_cause : (i : ℕ) (calls : Calls) (share : Share) (epoch : ℕ) (l : Logged) (x : Reply) → HasCause i calls share epoch l (own_answer x)
no_cause i calls share epoch l (reply.Done ver) = tt
no_cause i calls share epoch l (reply.Refused at why ver) = tt

tells : (s : NameState) (acts : List Act) (r : Req) (l : Logged) (x : Reply) → TellsWrite s acts r l (own_answer x)
tells s acts r l (reply.Done ver) = tt
tells s acts r l (reply.Refused at why ver) = tt

-- ---- the record behind a commit

has_after : (old new : StoreView) (name bytes : List ℕ) (r : TierRec) → IsRecOf (Some bytes) (Some r) → Made (sets (record_key name) (Some bytes)) old new
    → Has new (λ t. IsRecOf (fin.get t (record_key name)) (Some r))
has_after old new name bytes r spelled made = λ t left.
    let from = made_left (sets (record_key name) (Some bytes)) old new made t left in
    subst (λ (x : Table). IsRecOf (fin.get x (record_key name)) (Some r)) (sym (from.2 ∙ set_is from.0 (record_key name) (Some bytes)))
    (subst (λ (o : Option (List ℕ)). IsRecOf o (Some r)) (sym (get_here from.0 (record_key name) (Some bytes))) spelled)

pub made_there : (s : StoreView) (w : GroupView) (name : List ℕ) (r : TierRec) (result : Outcome) → Commits (record_put name r) s w.stores.cache result → IsSpelled r result
    → OnOk result (HasRec (joined w) name (Some r))
made_there s w name r (Ok m) commits spelled = has_after s w.stores.cache name (record_bytes r) r spelled commits.committed
made_there s w name r (Err fault) commits spelled = tt

-- ---- the answer

module _ (v : GroupView) (turn : Turn) (q : Req) (given : Reply) (r : TierRec) (n : NameState) (t : StoreView) (m : Unit {0}) where
  abbrev A : Act
  A = own_act turn q given

  abbrev First_ : Option First
  First_ = first_for v.log.opening q.name r.state

  abbrev W : GroupView
  W = acted_locally First_ A r n v.agent.moment t (Ok m) v

  abbrev Put : TierRec
  Put = acted_record n v.agent.moment

  module _ (ready : IsReady v A r n) (is : IsTurn v turn (Write q)) (whole : IsWhole W)
      (commits : Commits (record_put q.name Put) v.stores.cache t (Ok m)) (spelled : IsSpelled Put (Ok m)) where
    abbrev P : ℕ
    P = length W.log.acts

    abbrev L : Logged
    L = record { call = turn.call; line = turn.line; begin = turn.begin; place = P; end = P; path = Some Hit; answer = own_answer given }

    stands : (is.entry.begin ≤ P) × Stands W.log.acts is.entry.asked L
    stands = own_acts_stand W is.entry L A whole is.is (last_act_is_placed First_ A v) refl is.turn_is.line refl

    answers : IsAnswerOf W is.entry L
    answers = record {
      entry = is.is;
      going = is.turn_is.going;
      line = is.turn_is.line;
      begin = is.turn_is.begin;
      seen = subst (λ k. k ≤ P) is.turn_is.begin stands.0;
      done = omega arith;
      now = refl;
      kind = subst (λ (a : Asked). may_answer a L.answer ≡ true) (sym is.asked_is) (may_be_told q given);
      numbers = no_numbers given;
      way = subst (λ (a : Asked). may_go a L.answer (Some Hit) ≡ true) (sym is.asked_is) (goes_here q given);
      beside = stands.1;
    }

    has : HasRec (joined W) q.name (Some Put)
    has = has_after v.stores.cache t q.name (record_bytes Put) Put spelled commits.committed

    truth : (start : Store) → BothTell (joined W) → Began start W → TellsCall start W.log.acts L (call_of (calls_in W.calls.entries) turn.call)
    truth start told began =
        subst (TellsCall start W.log.acts L) (sym (call_found W.calls.entries turn.call is.entry is.is))
        (subst (λ (a : Asked). TellsCall start W.log.acts L (Some (record { number = is.entry.number; line = is.entry.line; begin = is.entry.begin; asked = a }))) (sym is.asked_is)
        (tells (state_at start W.log.acts P q.name) W.log.acts q L given))

    may_here : MayAnswer W L
    may_here = λ dropped. (
      record {
        own = refl;
        may = entries_may_log W is.entry L whole answers;
        cause = no_cause (length W.log.answers) (ended_calls (length W.log.answers) turn.call dropped W.calls) W.agent.share W.standing.cache_epoch L given;
        counted = counted_with W L whole (no_fault W L given);
      },
      record { tells = truth; good = inr (records_may_close_now W turn.call turn.line q Put refl ready.on.up ready.on.on.asked has) },
    )

    pub wrote_may : MayAnswer W (wrote_here turn v.log given)
    wrote_may = subst (λ k. MayAnswer W (record { call = turn.call; line = turn.line; begin = turn.begin; place = k; end = k; path = Some Hit; answer = own_answer given })) (length_push v.log.acts A) may_here

-- ---- both steps are one

pub written_step : (q : Req) (v w x : GroupView) → Keeps (with_req q) None v w → w.log.answers ≡ v.log.answers → w.calls.flown ≡ v.calls.flown → KeepsQuietly w x → Keeps (with_req q) None v x
written_step q v w x step same work quiet =
    (quiet.0, steps_join_quiet (with_req q) None v w x step.1 quiet.1 (inl same) (inl (ap length work)))
