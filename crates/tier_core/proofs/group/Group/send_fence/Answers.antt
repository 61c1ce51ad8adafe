use Rattle.std.proofs.Common.{◌≡◌, ◌≢◌, Some, None, ap, subst, sym, ◌∙◌}
use Rattle.tier_join.specs.Promises.{as_it_is}
use Rattle.tier_protocol.specs.Tiers.{Phase}
use Rattle.tier_traffic.specs.Wires.{WiresView}
use Rattle.tier_view.specs.Laws.{Keeps}
use Rattle.tier_view.specs.Starts.{fence_sent}
use Rattle.tier_view.specs.Stores.{Stores}
use Rattle.tier_view.specs.Views.{GroupView}
use Rattle.tier_core.specs.Keeps.{IsKept}
use Rattle.tier_core.specs.Parts.{group_of, stores_of}
use Rattle.tier_core.proofs.Fenced.{sent_is, sent_kept, sent_step}
use Rattle.tier_core.proofs.group.Group.send_fence.Goals as goal

pub invariant_of-self-2 : goal.invariant_of-self-2
invariant_of-self-2 g c =
    let i = c.self.inside in
    let stores : Stores = stores_of (g.P.Store.state i.cache) i.base i.cache_stopped i.base_stopped i.pending in
    let old : GroupView = group_of stores i.history.log i.calls.calls i.wires.traffic i.start i.agent in
    let none : i.pending ≡ None = ap (λ (v : GroupView). v.stores.pending) c.self.view_is ∙ c.requires.settled in
    let raised : i.start.phase ≢ Phase.Down = subst (λ (v : GroupView). v.standing.phase ≢ Phase.Down) (sym c.self.view_is) c.requires.raised in
    subst (λ (v : GroupView). IsKept v i.base i.calls)
    (sym (sent_is stores i.history.log i.calls.calls i.start i.agent c.args.line c.args.call i.wires c.send.new.self c.reserve_message.new.self.traffic
    (ap (λ (w : WiresView). w.traffic) c.in_ok-reserve_message.ensures.ok) (ap (λ (w : WiresView). w.traffic) c.send.ensures.sent)))
    (sent_kept old i.base i.calls c.args.line c.args.call c.self.invariant (sent_step old c.args.line c.args.call c.self.invariant.whole none raised).0)

pub returns-clause-sent : goal.returns-clause-sent
returns-clause-sent g c =
    let i = c.self.inside in
    let stores : Stores = stores_of (g.P.Store.state i.cache) i.base i.cache_stopped i.base_stopped i.pending in
    sent_is stores i.history.log i.calls.calls i.start i.agent c.args.line c.args.call i.wires c.send.new.self c.reserve_message.new.self.traffic
    (ap (λ (w : WiresView). w.traffic) c.in_ok-reserve_message.ensures.ok) (ap (λ (w : WiresView). w.traffic) c.send.ensures.sent)
    ∙ ap (fence_sent c.args.line c.args.call) c.self.view_is

pub returns-clause-step : goal.returns-clause-step
returns-clause-step g c =
    let i = c.self.inside in
    let stores : Stores = stores_of (g.P.Store.state i.cache) i.base i.cache_stopped i.base_stopped i.pending in
    let old : GroupView = group_of stores i.history.log i.calls.calls i.wires.traffic i.start i.agent in
    let none : i.pending ≡ None = ap (λ (v : GroupView). v.stores.pending) c.self.view_is ∙ c.requires.settled in
    let raised : i.start.phase ≢ Phase.Down = subst (λ (v : GroupView). v.standing.phase ≢ Phase.Down) (sym c.self.view_is) c.requires.raised in
    let new : GroupView =
    group_of stores i.history.log i.calls.calls c.send.new.self.traffic (record i.start { kept = Some (record { line = c.args.line; call = c.args.call }) }) i.agent in
    let eq : new ≡ fence_sent c.args.line c.args.call old =
    sent_is stores i.history.log i.calls.calls i.start i.agent c.args.line c.args.call i.wires c.send.new.self c.reserve_message.new.self.traffic
    (ap (λ (w : WiresView). w.traffic) c.in_ok-reserve_message.ensures.ok) (ap (λ (w : WiresView). w.traffic) c.send.ensures.sent) in
    subst (λ (v : GroupView). Keeps as_it_is None v new) c.self.view_is
    (subst (λ (w : GroupView). Keeps as_it_is None old w) (sym eq) (sent_step old c.args.line c.args.call c.self.invariant.whole none raised))
