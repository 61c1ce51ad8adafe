use Rattle.std.proofs.Common.{◌≡◌, None, ap, subst, ◌∙◌}
use Rattle.tier_view.specs.Views.{GroupView}
use Rattle.tier_core.specs.Deliveries.{IsDelivered}
use Rattle.tier_core.specs.Served.{Touched, touched}
use Rattle.tier_core.proofs.DeliveredThere.{Of, handed_over}
use Rattle.tier_core.proofs.ReadThere.{live_base}
use Rattle.tier_core.proofs.group.Group.deliver.Goals as goal

pub hand_over-requires : goal.hand_over-requires
hand_over-requires g c = record {
  live = live_base c.self.inside.base (ap (λ (v : GroupView). v.stores.base.live) c.self.view_is ∙ c.requires.live);
  sound = c.self.invariant.based;
  lawful = c.self.invariant.messages;
}

pub invariant_of-self : goal.invariant_of-self
invariant_of-self g c =
    let i = c.self.inside in
    let n = c.hand_over.new in
    let none : i.pending ≡ None = ap (λ (v : GroupView). v.stores.pending) c.self.view_is ∙ c.requires.settled in
    let old : Touched = touched i.base i.start.base_epoch i.pending i.history.log i.wires.traffic in
    let new : Touched = touched n.base n.epoch n.pending n.history.log n.wires.traffic in
    (handed_over (g.P.Store.state i.cache) i.cache_stopped i.base_stopped i.calls.calls i.start i.agent i.calls old c.self.invariant
    (ap (λ (v : GroupView). v.stores.base.live) c.self.view_is ∙ c.requires.live) none c.args.number new c.hand_over.result c.hand_over.ensures.sound c.hand_over.ensures.parts).1

pub returns : goal.returns
returns g c =
    let i = c.self.inside in
    let n = c.hand_over.new in
    let cache = g.P.Store.state i.cache in
    let none : i.pending ≡ None = ap (λ (v : GroupView). v.stores.pending) c.self.view_is ∙ c.requires.settled in
    let old : Touched = touched i.base i.start.base_epoch i.pending i.history.log i.wires.traffic in
    let new : Touched = touched n.base n.epoch n.pending n.history.log n.wires.traffic in
    let both = handed_over cache i.cache_stopped i.base_stopped i.calls.calls i.start i.agent i.calls old c.self.invariant
    (ap (λ (v : GroupView). v.stores.base.live) c.self.view_is ∙ c.requires.live) none c.args.number new c.hand_over.result c.hand_over.ensures.sound c.hand_over.ensures.parts in
    subst (λ (v : GroupView). IsDelivered c.args.number v (Of cache i.cache_stopped i.base_stopped i.calls.calls i.start i.agent i.calls new) c.hand_over.result) c.self.view_is both.0
