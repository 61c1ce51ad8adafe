use Rattle.std.proofs.Common.{ℕ, Option, subst, sym}
use Rattle.tier_chron.specs.Logs.{Log}
use Rattle.tier_view.specs.Answers.{KeepsQuietly}
use Rattle.tier_view.specs.Stores.{Stores}
use Rattle.tier_view.specs.Views.{GroupView}
use Rattle.tier_core.specs.Lacks.{LacksParts, LacksWrite, TellsLacked}
use Rattle.tier_core.specs.Parts.{group_of, stores_of}
use Rattle.tier_core.proofs.Lacked.{lack_all}
use Rattle.tier_core.proofs.group.Group.lack_write.Goals as goal

pub invariant_of-self-2 : goal.invariant_of-self-2
invariant_of-self-2 g c =
    let i = c.self.inside in
    let stores : Stores = stores_of (g.P.Store.state i.cache) i.base i.cache_stopped i.base_stopped i.pending in
    let new : GroupView = group_of stores c.lack.new.history.log c.lack.new.calls.calls c.lack.new.wires.traffic i.start i.agent in
    let logged = c.lacking-logged.result in
    let lacks : TellsLacked i.history.log i.calls.calls.entries i.wires.traffic i.start.cache_epoch c.args.reply logged =
    subst (λ (l : Log). TellsLacked l i.calls.calls.entries i.wires.traffic i.start.cache_epoch c.args.reply logged) c.reserve.ensures.same c.lacking-logged.ensures in
    let parts : LacksParts logged c.args.reply i.history.log c.lack.new.history.log i.calls c.lack.new.calls i.wires c.lack.new.wires =
    subst (λ (l : Log). LacksParts logged c.args.reply l c.lack.new.history.log i.calls c.lack.new.calls i.wires c.lack.new.wires) c.reserve.ensures.same c.lack.ensures.parts in
    let all =
    lack_all stores i.history.log c.lack.new.history.log i.calls c.lack.new.calls i.wires c.lack.new.wires i.start i.agent i.base c.args.reply c.self.invariant logged lacks parts in
    all.kept

pub returns-clause-lacks : goal.returns-clause-lacks
returns-clause-lacks g c =
    let i = c.self.inside in
    let stores : Stores = stores_of (g.P.Store.state i.cache) i.base i.cache_stopped i.base_stopped i.pending in
    let new : GroupView = group_of stores c.lack.new.history.log c.lack.new.calls.calls c.lack.new.wires.traffic i.start i.agent in
    let logged = c.lacking-logged.result in
    let lacks : TellsLacked i.history.log i.calls.calls.entries i.wires.traffic i.start.cache_epoch c.args.reply logged =
    subst (λ (l : Log). TellsLacked l i.calls.calls.entries i.wires.traffic i.start.cache_epoch c.args.reply logged) c.reserve.ensures.same c.lacking-logged.ensures in
    let parts : LacksParts logged c.args.reply i.history.log c.lack.new.history.log i.calls c.lack.new.calls i.wires c.lack.new.wires =
    subst (λ (l : Log). LacksParts logged c.args.reply l c.lack.new.history.log i.calls c.lack.new.calls i.wires c.lack.new.wires) c.reserve.ensures.same c.lack.ensures.parts in
    let all =
    lack_all stores i.history.log c.lack.new.history.log i.calls c.lack.new.calls i.wires c.lack.new.wires i.start i.agent i.base c.args.reply c.self.invariant logged lacks parts in
    subst (λ (v : GroupView). LacksWrite c.args.reply v new c.lack.result) c.self.view_is
    (subst (LacksWrite c.args.reply _ new) (sym c.lack.ensures.call) all.is)

pub returns-clause-step : goal.returns-clause-step
returns-clause-step g c =
    let i = c.self.inside in
    let stores : Stores = stores_of (g.P.Store.state i.cache) i.base i.cache_stopped i.base_stopped i.pending in
    let new : GroupView = group_of stores c.lack.new.history.log c.lack.new.calls.calls c.lack.new.wires.traffic i.start i.agent in
    let logged = c.lacking-logged.result in
    let lacks : TellsLacked i.history.log i.calls.calls.entries i.wires.traffic i.start.cache_epoch c.args.reply logged =
    subst (λ (l : Log). TellsLacked l i.calls.calls.entries i.wires.traffic i.start.cache_epoch c.args.reply logged) c.reserve.ensures.same c.lacking-logged.ensures in
    let parts : LacksParts logged c.args.reply i.history.log c.lack.new.history.log i.calls c.lack.new.calls i.wires c.lack.new.wires =
    subst (λ (l : Log). LacksParts logged c.args.reply l c.lack.new.history.log i.calls c.lack.new.calls i.wires c.lack.new.wires) c.reserve.ensures.same c.lack.ensures.parts in
    let all =
    lack_all stores i.history.log c.lack.new.history.log i.calls c.lack.new.calls i.wires c.lack.new.wires i.start i.agent i.base c.args.reply c.self.invariant logged lacks parts in
    subst (λ (v : GroupView). KeepsQuietly v new) c.self.view_is all.step
