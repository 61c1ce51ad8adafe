-- A request that acts on a record of the cache and is answered: the group behind it.
use Rattle.std.proofs.Common.{◌≡◌, Bool, ℕ, Option, Some, None, refl, sym, ap, subst, ◌∙◌}
use Rattle.std.specs.Prelude.{Ok, Err, OnErr, OnOk}
use Rattle.base_pool.specs.Views.{BaseView}
use Rattle.cache_pool.specs.Puts.{Commits, IsSpelled, record_put}
use Rattle.obj_model.specs.declared.reply.Reply.{Reply}
use Rattle.obj_model.specs.declared.req.Req.{Req}
use Rattle.obj_model.specs.declared.state.NameState.{NameState}
use Rattle.obj_model.specs.declared.tier.Path.TheVariants.{Hit}
use Rattle.store_face.specs.Views.{Sound, StoreView}
use Rattle.tier_calls.specs.Tables.{TableView}
use Rattle.tier_chron.specs.Logs.{Log}
use Rattle.tier_chron.specs.declared.answer.Answer.{Answer}
use Rattle.tier_chron.specs.declared.asked.Asked.TheVariants.{Write}
use Rattle.tier_chron.specs.declared.entries.Act.{Act}
use Rattle.tier_chron.specs.declared.entries.Logged.{Logged}
use Rattle.tier_join.specs.Promises.{with_req}
use Rattle.tier_join.specs.Steps.{Outcome}
use Rattle.tier_rec.specs.Records.{acted_record}
use Rattle.tier_traffic.specs.Wires.{WiresView}
use Rattle.tier_types.specs.declared.record.TierRec.{TierRec}
use Rattle.tier_view.specs.Answered.{own_answer}
use Rattle.tier_view.specs.Answers.{KeepsQuietly, ended_call}
use Rattle.tier_view.specs.Laws.{Keeps}
use Rattle.tier_view.specs.Stores.{Stores}
use Rattle.tier_view.specs.Views.{GroupView}
use Rattle.tier_view.specs.declared.parts.Pending.{Pending}
use Rattle.tier_core.specs.Ends.{EndsParts, IsEnded, MayAnswer}
use Rattle.tier_core.specs.Keeps.{IsKept}
use Rattle.tier_core.specs.Parts.{group_of, stores_of}
use Rattle.tier_core.specs.Turns.{IsTurn}
use Rattle.tier_core.specs.Writes.{Writes, acted_here, own_act, wrote_here}
use Rattle.tier_core.specs.declared.parts.Agent.{Agent}
use Rattle.tier_core.specs.declared.parts.Start.{Start}
use Rattle.tier_core.specs.declared.turns.Turn.{Turn}
use Rattle.tier_core.proofs.ActedHere.{IsReady, acted_kept, acted_step}
use Rattle.tier_core.proofs.EndedCalls.{answered_quietly, end_is, end_kept, end_step}
use Rattle.tier_core.proofs.WroteHere.{written_step, wrote_may}

-- the answer that is made is this one
pub own_is : (turn : Turn) (log : Log) (given : Reply) (place : ℕ) (x : Answer) → place ≡ (wrote_here turn log given).place → x ≡ own_answer given
    → ◌≡◌ {A = Logged} (record { call = turn.call; line = turn.line; begin = turn.begin; place = place; end = place; path = Some Hit; answer = x }) (wrote_here turn log given)
own_is turn log given place x counted told =
    ap {A = ℕ} {B = Logged} (λ n. record { call = turn.call; line = turn.line; begin = turn.begin; place = n; end = n; path = Some Hit; answer = x }) counted
    ∙ ap {A = Answer} {B = Logged}
    (λ y. record { call = turn.call; line = turn.line; begin = turn.begin; place = (wrote_here turn log given).place; end = (wrote_here turn log given).place; path = Some Hit; answer = y }) told

-- what a write leaves of a group
pub record Written (q : Req) (old new : GroupView) (base : BaseView) (table : TableView) (written : Type 0) : Type 0 where
  pub kept : IsKept new base table
  pub is : written
  pub step : Keeps (with_req q) None old new

module _ (s : StoreView) (base : BaseView) (cache_stopped base_stopped : Bool) (pending : Option Pending) (start : Start) (agent : Agent) (log after : Log) (t u : TableView) (w x : WiresView)
    (turn : Turn) (q : Req) (given : Reply) (old : GroupView) (r : TierRec) (n : NameState) where
  abbrev Both : Stores
  Both = stores_of s base cache_stopped base_stopped pending

  -- behind the commit, and behind the answer
  abbrev M : GroupView
  M = group_of Both log t.calls w.traffic start agent

  abbrev N : GroupView
  N = group_of Both after u.calls x.traffic start agent

  abbrev L : Logged
  L = wrote_here turn old.log given

  module _ (ready : IsReady old (own_act turn q given) r n) (sound : Sound s) (is : IsTurn old turn (Write q)) (h : IsKept old base t) where
    pub written_all : (result : Outcome) → M ≡ acted_here turn q given r n result old N → Commits (record_put q.name (acted_record n old.agent.moment)) old.stores.cache s result
        → IsSpelled (acted_record n old.agent.moment) result → OnOk result (EndsParts L log after t u w x) → OnErr result (after ≡ log) → OnErr result (u ≡ t) → OnErr result (x ≡ w)
        → Written q old N base u (Writes turn q given r n old N result)
    written_all (Ok m) eq commits spelled e logged calls wires =
        let step = acted_step old (own_act turn q given) r n s ready sound h.whole (Ok m) commits spelled in
        let kept : IsKept M base t = subst (λ (v : GroupView). IsKept v base t) (sym eq) (acted_kept old (own_act turn q given) r n s ready sound base t (Ok m) h step) in
        let may : MayAnswer M L = subst (λ (v : GroupView). MayAnswer v L) (sym eq) (wrote_may old turn q given r n s m ready is step.0 commits spelled) in
        let quiet : KeepsQuietly M (ended_call turn.call (Some L) x.traffic.flights e.dropped M) =
        answered_quietly M turn.call x.traffic.flights e.dropped kept.whole e.reads e.goes e.left L (may e.dropped) in
        let behind : KeepsQuietly M N = end_step Both log after t u w x start agent base turn.call (Some L) e.dropped e.logged e.calls e.wires quiet in
        record {
          kept = end_kept Both log after t u w x start agent base turn.call (Some L) e.dropped e.logged e.calls e.wires kept quiet;
          is = subst (λ (v : GroupView). IsEnded turn.call (Some L) v N) eq (end_is Both log after t u w x start agent base turn.call (Some L) e.dropped e.logged e.calls e.wires e.goes e.left);
          step = written_step q old (acted_here turn q given r n (Ok m) old N) N step refl refl (subst (λ (v : GroupView). KeepsQuietly v N) eq behind);
        }
    written_all (Err fault) eq commits spelled e logged calls wires =
        let step = acted_step old (own_act turn q given) r n s ready sound h.whole (Err fault) commits spelled in
        let kept = acted_kept old (own_act turn q given) r n s ready sound base t (Err fault) h step in
        let same : N ≡ acted_here turn q given r n (Err fault) old N =
        ap (λ (l : Log). group_of Both l u.calls x.traffic start agent) logged
        ∙ ap (λ (y : TableView). group_of Both log y.calls x.traffic start agent) calls
        ∙ ap (λ (y : WiresView). group_of Both log t.calls y.traffic start agent) wires
        ∙ eq in
        record {
          kept = subst (λ (y : TableView). IsKept N base y) (sym calls) (subst (λ (v : GroupView). IsKept v base t) (sym same) kept);
          is = same;
          step = subst (Keeps (with_req q) None old) (sym same) step;
        }
