use Rattle.std.proofs.Common.{◌≡◌, ◌+◌, ℕ, length, Option, Some, None, OnOk, List, ap, subst, sym, ◌∙◌}
use Rattle.tier_chron.specs.Logs.{Log}
use Rattle.cache_pool.specs.Puts.{Commits, IsSpelled, record_put}
use Rattle.tier_chron.specs.declared.asked.Asked.TheVariants.{Write}
use Rattle.tier_chron.specs.declared.entries.Act.{Act}
use Rattle.tier_chron.specs.declared.entries.First.{First}
use Rattle.tier_chron.specs.declared.entries.Logged.{Logged}
use Rattle.tier_join.specs.Promises.{with_req}
use Rattle.tier_rec.specs.Records.{acted_record, totals_after}
use Rattle.tier_types.specs.declared.record.TierRec.{TierRec}
use Rattle.tier_view.specs.Laws.{Keeps}
use Rattle.tier_join.specs.Steps.{HasRec}
use Rattle.tier_view.specs.Views.{GroupView, joined}
use Rattle.tier_core.specs.Acts.{first_for, pending_after}
use Rattle.tier_core.specs.Ends.{EndsParts}
use Rattle.tier_core.specs.Parts.{group_of, stores_of}
use Rattle.tier_core.specs.Turns.{IsTurn}
use Rattle.tier_core.specs.Writes.{Writes, own_act}
use Rattle.tier_core.specs.declared.parts.Agent.{Agent}
use Rattle.tier_core.proofs.ActedHere.{IsReady, acted_is, unacted_step}
use Rattle.tier_core.proofs.ReadHere.{nothing_is}
use Rattle.tier_core.proofs.WroteAll.{own_is, written_all}
use Rattle.tier_core.proofs.WroteHere.{made_there}
use Rattle.tier_core.proofs.group.Group.write_here.Goals as goal

pub invariant_of-self-2 : goal.invariant_of-self-2
invariant_of-self-2 g c =
    let i = c.self.inside in
    let q = c.args.req in
    let given = c.args.reply in
    let r = c.args.held in
    let n = c.args.state in
    let a : Act = own_act c.args.turn q given in
    let s = g.P.Store.state i.cache in
    let t = g.P.Store.state c.put_record-made.new.store in
    let result = c.put_record-made.result in
    let rec : TierRec = c.after_act-record.result in
    let is : rec ≡ acted_record n i.agent.moment = c.after_act-record.ensures in
    let none : i.pending ≡ None = ap (λ (v : GroupView). v.stores.pending) c.self.view_is ∙ c.requires.settled in
    let o : Option First = first_for i.history.log.opening q.name r.state in
    let agent : Agent = record i.agent { totals = c.finish.new.totals } in
    let old : GroupView = group_of (stores_of s i.base i.cache_stopped i.base_stopped i.pending) i.history.log i.calls.calls i.wires.traffic i.start i.agent in
    let ready : IsReady old a r n =
    subst (λ (v : GroupView). IsReady v a r n) (sym c.self.view_is)
    (record { live = c.requires.live; settled = c.requires.settled; on = c.requires.on; has = c.requires.has; named = c.prepare.ensures.named }) in
    let turn : IsTurn old c.args.turn (Write q) = subst (λ (v : GroupView). IsTurn v c.args.turn (Write q)) (sym c.self.view_is) c.requires.turn in
    let put = subst (λ (x : TierRec). Commits (record_put q.name x) s t result) is c.put_record-made.ensures.put in
    let spelled = subst (λ (x : TierRec). IsSpelled x result) is c.put_record-made.ensures.spelled in
    let eq =
    acted_is s t i.base i.cache_stopped i.base_stopped i.history.log i.calls.calls i.wires.traffic i.start i.agent o a r n result
    i.pending c.finish.new.pending c.prepare.new.history.log c.finish.new.history.log c.in-Ok.first c.totals_with-totals.result c.finish.new.totals
    none c.in-Ok.ensures.first c.prepare.ensures.same
    (c.totals_with-totals.ensures ∙ ap (λ (x : TierRec). totals_after i.agent.totals (Some r) (Some x)) is)
    (c.finish.ensures.pending ∙ ap (λ (x : TierRec). pending_after c.in-Ok.first a x.state.seq result i.pending) is)
    c.finish.ensures.log c.finish.ensures.totals in
    let place : length c.acts.result.now + 1 ≡ length i.history.log.acts + 1 =
    ap (λ (k : ℕ). k + 1) (ap {A = List Act} length (c.acts.ensures ∙ ap (λ (l : Log). l.acts) c.prepare.ensures.same)) in
    let ended = subst (λ (l : Logged). OnOk result (EndsParts l c.finish.new.history.log c.end_made.new.history.log i.calls c.end_made.new.calls i.wires c.end_made.new.wires))
    (own_is c.args.turn i.history.log given (length c.acts.result.now + 1) c.own_answer.result place c.own_answer.ensures) c.end_made.ensures.ended in
    let all =
    written_all t i.base i.cache_stopped i.base_stopped c.finish.new.pending i.start agent c.finish.new.history.log c.end_made.new.history.log i.calls c.end_made.new.calls i.wires c.end_made.new.wires
    c.args.turn q given old r n ready c.put_record-made.ensures.sound turn c.self.invariant result eq put spelled ended c.end_made.ensures.log c.end_made.ensures.calls c.end_made.ensures.wires in
    all.kept

pub returns : goal.returns
returns g c =
    let i = c.self.inside in
    let q = c.args.req in
    let given = c.args.reply in
    let r = c.args.held in
    let n = c.args.state in
    let a : Act = own_act c.args.turn q given in
    let s = g.P.Store.state i.cache in
    let t = g.P.Store.state c.put_record-made.new.store in
    let result = c.put_record-made.result in
    let rec : TierRec = c.after_act-record.result in
    let is : rec ≡ acted_record n i.agent.moment = c.after_act-record.ensures in
    let none : i.pending ≡ None = ap (λ (v : GroupView). v.stores.pending) c.self.view_is ∙ c.requires.settled in
    let o : Option First = first_for i.history.log.opening q.name r.state in
    let agent : Agent = record i.agent { totals = c.finish.new.totals } in
    let old : GroupView = group_of (stores_of s i.base i.cache_stopped i.base_stopped i.pending) i.history.log i.calls.calls i.wires.traffic i.start i.agent in
    let ready : IsReady old a r n =
    subst (λ (v : GroupView). IsReady v a r n) (sym c.self.view_is)
    (record { live = c.requires.live; settled = c.requires.settled; on = c.requires.on; has = c.requires.has; named = c.prepare.ensures.named }) in
    let turn : IsTurn old c.args.turn (Write q) = subst (λ (v : GroupView). IsTurn v c.args.turn (Write q)) (sym c.self.view_is) c.requires.turn in
    let put = subst (λ (x : TierRec). Commits (record_put q.name x) s t result) is c.put_record-made.ensures.put in
    let spelled = subst (λ (x : TierRec). IsSpelled x result) is c.put_record-made.ensures.spelled in
    let eq =
    acted_is s t i.base i.cache_stopped i.base_stopped i.history.log i.calls.calls i.wires.traffic i.start i.agent o a r n result
    i.pending c.finish.new.pending c.prepare.new.history.log c.finish.new.history.log c.in-Ok.first c.totals_with-totals.result c.finish.new.totals
    none c.in-Ok.ensures.first c.prepare.ensures.same
    (c.totals_with-totals.ensures ∙ ap (λ (x : TierRec). totals_after i.agent.totals (Some r) (Some x)) is)
    (c.finish.ensures.pending ∙ ap (λ (x : TierRec). pending_after c.in-Ok.first a x.state.seq result i.pending) is)
    c.finish.ensures.log c.finish.ensures.totals in
    let place : length c.acts.result.now + 1 ≡ length i.history.log.acts + 1 =
    ap (λ (k : ℕ). k + 1) (ap {A = List Act} length (c.acts.ensures ∙ ap (λ (l : Log). l.acts) c.prepare.ensures.same)) in
    let ended = subst (λ (l : Logged). OnOk result (EndsParts l c.finish.new.history.log c.end_made.new.history.log i.calls c.end_made.new.calls i.wires c.end_made.new.wires))
    (own_is c.args.turn i.history.log given (length c.acts.result.now + 1) c.own_answer.result place c.own_answer.ensures) c.end_made.ensures.ended in
    let all =
    written_all t i.base i.cache_stopped i.base_stopped c.finish.new.pending i.start agent c.finish.new.history.log c.end_made.new.history.log i.calls c.end_made.new.calls i.wires c.end_made.new.wires
    c.args.turn q given old r n ready c.put_record-made.ensures.sound turn c.self.invariant result eq put spelled ended c.end_made.ensures.log c.end_made.ensures.calls c.end_made.ensures.wires in
    let new : GroupView = group_of (stores_of t i.base i.cache_stopped i.base_stopped c.finish.new.pending) c.end_made.new.history.log c.end_made.new.calls.calls c.end_made.new.wires.traffic i.start agent in
    record {
      written = subst (λ (v : GroupView). Writes c.args.turn q given r n v new result) c.self.view_is all.is;
      put = subst (λ (v : GroupView). Commits (record_put q.name (acted_record n v.agent.moment)) v.stores.cache t result) c.self.view_is put;
      there = subst (λ (v : GroupView). OnOk result (HasRec (joined new) q.name (Some (acted_record n v.agent.moment)))) c.self.view_is
          (made_there s new q.name (acted_record n i.agent.moment) result put spelled);
      step = subst (λ (v : GroupView). Keeps (with_req q) None v new) c.self.view_is all.step;
    }

pub returns-in_default-clause-step : goal.returns-in_default-clause-step
returns-in_default-clause-step g c =
    let i = c.self.inside in
    let a : Act = own_act c.args.turn c.args.req c.args.reply in
    let s = g.P.Store.state i.cache in
    let none : i.pending ≡ None = ap (λ (v : GroupView). v.stores.pending) c.self.view_is ∙ c.requires.settled in
    let old : GroupView = group_of (stores_of s i.base i.cache_stopped i.base_stopped i.pending) i.history.log i.calls.calls i.wires.traffic i.start i.agent in
    let new : GroupView = group_of (stores_of s i.base i.cache_stopped i.base_stopped i.pending) c.prepare.new.history.log i.calls.calls i.wires.traffic i.start i.agent in
    subst (λ (v : GroupView). Keeps (with_req a.req) None v new) c.self.view_is
    (subst (λ (v : GroupView). Keeps (with_req a.req) None old v)
    (sym (nothing_is s i.base i.cache_stopped i.base_stopped i.pending i.history.log c.prepare.new.history.log i.calls.calls i.wires.traffic i.start i.agent none c.prepare.ensures.same))
    (unacted_step old a c.self.invariant.whole none))
