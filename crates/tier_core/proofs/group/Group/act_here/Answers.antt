use Rattle.std.proofs.Common.{◌≡◌, Option, Some, None, ap, subst, sym, ◌∙◌}
use Rattle.cache_pool.specs.Puts.{Commits, IsSpelled, record_put}
use Rattle.tier_chron.specs.declared.entries.Act.{Act}
use Rattle.tier_chron.specs.declared.entries.First.{First}
use Rattle.tier_join.specs.Promises.{with_req}
use Rattle.tier_rec.specs.Records.{acted_record, totals_after}
use Rattle.tier_types.specs.declared.record.TierRec.{TierRec}
use Rattle.tier_view.specs.Laws.{Keeps}
use Rattle.tier_view.specs.Locals.{acted_locally}
use Rattle.tier_view.specs.Views.{GroupView}
use Rattle.tier_core.specs.Acts.{first_for, pending_after}
use Rattle.tier_core.specs.Keeps.{IsKept}
use Rattle.tier_core.specs.Parts.{group_of, stores_of}
use Rattle.tier_core.proofs.ActedHere.{IsReady, acted_is, acted_kept, acted_step, unacted_step}
use Rattle.tier_core.proofs.ReadHere.{nothing_is}
use Rattle.tier_core.proofs.group.Group.act_here.Goals as goal

pub invariant_of-self-2 : goal.invariant_of-self-2
invariant_of-self-2 g c =
    let i = c.self.inside in
    let a = c.args.act in
    let r = c.args.held in
    let n = c.args.state in
    let s = g.P.Store.state i.cache in
    let t = g.P.Store.state c.put_record-made.new.store in
    let rec : TierRec = c.after_act-record.result in
    let is : rec ≡ acted_record n i.agent.moment = c.after_act-record.ensures in
    let none : i.pending ≡ None = ap (λ (v : GroupView). v.stores.pending) c.self.view_is ∙ c.requires.settled in
    let o : Option First = first_for i.history.log.opening a.req.name r.state in
    let old : GroupView = group_of (stores_of s i.base i.cache_stopped i.base_stopped i.pending) i.history.log i.calls.calls i.wires.traffic i.start i.agent in
    let ready : IsReady old a r n =
    subst (λ (v : GroupView). IsReady v a r n) (sym c.self.view_is)
    (record { live = c.requires.live; settled = c.requires.settled; on = c.requires.on; has = c.requires.has; named = c.prepare.ensures.named }) in
    let put = subst (λ (x : TierRec). Commits (record_put a.req.name x) s t c.put_record-made.result) is c.put_record-made.ensures.put in
    let spelled = subst (λ (x : TierRec). IsSpelled x c.put_record-made.result) is c.put_record-made.ensures.spelled in
    subst (λ (v : GroupView). IsKept v i.base i.calls)
    (sym (acted_is s t i.base i.cache_stopped i.base_stopped i.history.log i.calls.calls i.wires.traffic i.start i.agent o a r n c.put_record-made.result
    i.pending c.finish.new.pending c.prepare.new.history.log c.finish.new.history.log c.in-Ok.first c.totals_with-totals.result c.finish.new.totals
    none c.in-Ok.ensures.first c.prepare.ensures.same
    (c.totals_with-totals.ensures ∙ ap (λ (x : TierRec). totals_after i.agent.totals (Some r) (Some x)) is)
    (c.finish.ensures.pending ∙ ap (λ (x : TierRec). pending_after c.in-Ok.first a x.state.seq c.put_record-made.result i.pending) is)
    c.finish.ensures.log c.finish.ensures.totals))
    (acted_kept old a r n t ready c.put_record-made.ensures.sound i.base i.calls c.put_record-made.result c.self.invariant
    (acted_step old a r n t ready c.put_record-made.ensures.sound c.self.invariant.whole c.put_record-made.result put spelled))

pub returns : goal.returns
returns g c =
    let i = c.self.inside in
    let a = c.args.act in
    let r = c.args.held in
    let n = c.args.state in
    let s = g.P.Store.state i.cache in
    let t = g.P.Store.state c.put_record-made.new.store in
    let rec : TierRec = c.after_act-record.result in
    let is : rec ≡ acted_record n i.agent.moment = c.after_act-record.ensures in
    let none : i.pending ≡ None = ap (λ (v : GroupView). v.stores.pending) c.self.view_is ∙ c.requires.settled in
    let o : Option First = first_for i.history.log.opening a.req.name r.state in
    let old : GroupView = group_of (stores_of s i.base i.cache_stopped i.base_stopped i.pending) i.history.log i.calls.calls i.wires.traffic i.start i.agent in
    let new : GroupView = group_of (stores_of t i.base i.cache_stopped i.base_stopped c.finish.new.pending) c.finish.new.history.log i.calls.calls i.wires.traffic i.start (record i.agent { totals = c.finish.new.totals }) in
    let ready : IsReady old a r n =
    subst (λ (v : GroupView). IsReady v a r n) (sym c.self.view_is)
    (record { live = c.requires.live; settled = c.requires.settled; on = c.requires.on; has = c.requires.has; named = c.prepare.ensures.named }) in
    let put = subst (λ (x : TierRec). Commits (record_put a.req.name x) s t c.put_record-made.result) is c.put_record-made.ensures.put in
    let spelled = subst (λ (x : TierRec). IsSpelled x c.put_record-made.result) is c.put_record-made.ensures.spelled in
    let eq : new ≡ acted_locally o a r n i.agent.moment t c.put_record-made.result old =
    acted_is s t i.base i.cache_stopped i.base_stopped i.history.log i.calls.calls i.wires.traffic i.start i.agent o a r n c.put_record-made.result
    i.pending c.finish.new.pending c.prepare.new.history.log c.finish.new.history.log c.in-Ok.first c.totals_with-totals.result c.finish.new.totals
    none c.in-Ok.ensures.first c.prepare.ensures.same
    (c.totals_with-totals.ensures ∙ ap (λ (x : TierRec). totals_after i.agent.totals (Some r) (Some x)) is)
    (c.finish.ensures.pending ∙ ap (λ (x : TierRec). pending_after c.in-Ok.first a x.state.seq c.put_record-made.result i.pending) is)
    c.finish.ensures.log c.finish.ensures.totals in
    record {
      acted = subst (λ (v : GroupView). new ≡ acted_locally (first_for v.log.opening a.req.name r.state) a r n v.agent.moment t c.put_record-made.result v) c.self.view_is eq;
      put = subst (λ (v : GroupView). Commits (record_put a.req.name (acted_record n v.agent.moment)) v.stores.cache t c.put_record-made.result) c.self.view_is put;
      step = subst (λ (v : GroupView). Keeps (with_req a.req) None v new) c.self.view_is
          (subst (λ (v : GroupView). Keeps (with_req a.req) None old v) (sym eq)
          (acted_step old a r n t ready c.put_record-made.ensures.sound c.self.invariant.whole c.put_record-made.result put spelled));
    }

pub returns-in_default-clause-step : goal.returns-in_default-clause-step
returns-in_default-clause-step g c =
    let i = c.self.inside in
    let a : Act = c.args.act in
    let s = g.P.Store.state i.cache in
    let none : i.pending ≡ None = ap (λ (v : GroupView). v.stores.pending) c.self.view_is ∙ c.requires.settled in
    let old : GroupView = group_of (stores_of s i.base i.cache_stopped i.base_stopped i.pending) i.history.log i.calls.calls i.wires.traffic i.start i.agent in
    let new : GroupView = group_of (stores_of s i.base i.cache_stopped i.base_stopped i.pending) c.prepare.new.history.log i.calls.calls i.wires.traffic i.start i.agent in
    subst (λ (v : GroupView). Keeps (with_req a.req) None v new) c.self.view_is
    (subst (λ (v : GroupView). Keeps (with_req a.req) None old v)
    (sym (nothing_is s i.base i.cache_stopped i.base_stopped i.pending i.history.log c.prepare.new.history.log i.calls.calls i.wires.traffic i.start i.agent none c.prepare.ensures.same))
    (unacted_step old a c.self.invariant.whole none))
