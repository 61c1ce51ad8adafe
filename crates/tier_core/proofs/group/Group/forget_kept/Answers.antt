use Rattle.std.proofs.Common.{None, ap, subst}
use Rattle.tier_view.proofs.StartingLosses.{answering_fences_keeps}
use Rattle.tier_view.specs.Starts.{forgot_kept}
use Rattle.tier_view.specs.Stores.{Stores}
use Rattle.tier_view.specs.Views.{GroupView}
use Rattle.tier_core.specs.Parts.{group_of, stores_of}
use Rattle.tier_core.specs.Steps.{IsStep}
use Rattle.tier_core.proofs.Lost.{fence_kept}
use Rattle.tier_core.proofs.group.Group.forget_kept.Goals as goal

pub invariant_of-self : goal.invariant_of-self
invariant_of-self g c =
    let i = c.self.inside in
    let stores : Stores = stores_of (g.P.Store.state i.cache) i.base i.cache_stopped i.base_stopped i.pending in
    fence_kept (group_of stores i.history.log i.calls.calls i.wires.traffic i.start i.agent) i.base i.calls c.self.invariant

pub returns : goal.returns
returns g c =
    let i = c.self.inside in
    let stores : Stores = stores_of (g.P.Store.state i.cache) i.base i.cache_stopped i.base_stopped i.pending in
    let old : GroupView = group_of stores i.history.log i.calls.calls i.wires.traffic i.start i.agent in
    record {
      forgot = ap forgot_kept c.self.view_is;
      step = subst (λ (v : GroupView). IsStep None v (forgot_kept old)) c.self.view_is (answering_fences_keeps old c.self.invariant.whole);
    }
