use Rattle.std.proofs.Common.{None, subst}
use Rattle.tier_view.specs.Answers.{KeepsQuietly}
use Rattle.tier_view.specs.Stores.{Stores}
use Rattle.tier_view.specs.Views.{GroupView}
use Rattle.tier_core.specs.Ends.{IsEnded}
use Rattle.tier_core.specs.Parts.{group_of, stores_of}
use Rattle.tier_core.proofs.EndedCalls.{dropped_quietly, end_is, end_kept, end_step}
use Rattle.tier_core.proofs.group.Group.drop_call.Goals as goal

pub invariant_of-self : goal.invariant_of-self
invariant_of-self g c =
    let i = c.self.inside in
    let stores : Stores = stores_of (g.P.Store.state i.cache) i.base i.cache_stopped i.base_stopped i.pending in
    let old : GroupView = group_of stores i.history.log i.calls.calls i.wires.traffic i.start i.agent in
    let e = c.end_parts.ensures in
    end_kept stores i.history.log c.end_parts.new.history.log i.calls c.end_parts.new.calls i.wires c.end_parts.new.wires i.start i.agent i.base c.args.call None c.end_parts.result
    e.log e.calls e.wires c.self.invariant
    (dropped_quietly old c.args.call c.end_parts.new.wires.traffic.flights c.end_parts.result c.self.invariant.whole e.reads e.goes e.left)

pub returns-clause-ended : goal.returns-clause-ended
returns-clause-ended g c =
    let i = c.self.inside in
    let stores : Stores = stores_of (g.P.Store.state i.cache) i.base i.cache_stopped i.base_stopped i.pending in
    let new : GroupView = group_of stores c.end_parts.new.history.log c.end_parts.new.calls.calls c.end_parts.new.wires.traffic i.start i.agent in
    let e = c.end_parts.ensures in
    subst (λ (v : GroupView). IsEnded c.args.call None v new) c.self.view_is
    (end_is stores i.history.log c.end_parts.new.history.log i.calls c.end_parts.new.calls i.wires c.end_parts.new.wires i.start i.agent i.base c.args.call None c.end_parts.result
    e.log e.calls e.wires e.goes e.left)

pub returns-clause-step : goal.returns-clause-step
returns-clause-step g c =
    let i = c.self.inside in
    let stores : Stores = stores_of (g.P.Store.state i.cache) i.base i.cache_stopped i.base_stopped i.pending in
    let old : GroupView = group_of stores i.history.log i.calls.calls i.wires.traffic i.start i.agent in
    let new : GroupView = group_of stores c.end_parts.new.history.log c.end_parts.new.calls.calls c.end_parts.new.wires.traffic i.start i.agent in
    let e = c.end_parts.ensures in
    subst (λ (v : GroupView). KeepsQuietly v new) c.self.view_is
    (end_step stores i.history.log c.end_parts.new.history.log i.calls c.end_parts.new.calls i.wires c.end_parts.new.wires i.start i.agent i.base c.args.call None c.end_parts.result
    e.log e.calls e.wires
    (dropped_quietly old c.args.call c.end_parts.new.wires.traffic.flights c.end_parts.result c.self.invariant.whole e.reads e.goes e.left))
