use Rattle.std.proofs.Common.{None, subst}
use Rattle.tier_view.specs.Starts.{with_base_stopped}
use Rattle.tier_view.specs.Views.{GroupView}
use Rattle.tier_core.specs.Parts.{group_of, stores_of}
use Rattle.tier_core.specs.Steps.{IsStep}
use Rattle.tier_core.proofs.Stopped.{base_stop_kept, stopping_base_steps}
use Rattle.tier_core.proofs.group.Group.stop_base.Goals as goal

pub invariant_of-self : goal.invariant_of-self
invariant_of-self g c =
    let i = c.self.inside in
    let old : GroupView = group_of (stores_of (g.P.Store.state i.cache) i.base i.cache_stopped i.base_stopped i.pending) i.history.log i.calls.calls i.wires.traffic i.start i.agent in
    base_stop_kept old i.base i.calls c.self.invariant

pub returns-clause-step : goal.returns-clause-step
returns-clause-step g c =
    let i = c.self.inside in
    let old : GroupView = group_of (stores_of (g.P.Store.state i.cache) i.base i.cache_stopped i.base_stopped i.pending) i.history.log i.calls.calls i.wires.traffic i.start i.agent in
    subst (λ (v : GroupView). IsStep None v (with_base_stopped old)) c.self.view_is (stopping_base_steps old i.base i.calls c.self.invariant)
