use Rattle.std.proofs.Common.{◌≡◌, true, None, length, subst, sym}
use Rattle.tier_view.specs.Stops.{with_cache_stopped}
use Rattle.tier_view.specs.Stores.{Stores}
use Rattle.tier_view.specs.Views.{GroupView}
use Rattle.tier_calls.specs.Tables.{TableView}
use Rattle.tier_core.specs.Keeps.{IsKept}
use Rattle.tier_core.specs.Parts.{group_of, stores_of}
use Rattle.tier_core.specs.Steps.{IsStep}
use Rattle.tier_core.specs.Stops.{all_gone}
use Rattle.tier_core.proofs.Stopped.{cache_stop_kept, stopped_is, stopping_cache_steps}
use Rattle.tier_core.proofs.group.Group.stop_cache.Goals as goal

pub invariant_of-self : goal.invariant_of-self
invariant_of-self g c =
    let i = c.self.inside in
    let e = c.drop_cache.ensures in
    let stores : Stores = stores_of (g.P.Store.state i.cache) i.base i.cache_stopped i.base_stopped i.pending in
    let old : GroupView = group_of stores i.history.log i.calls.calls i.wires.traffic i.start i.agent in
    subst (λ (t : TableView). IsKept (group_of (record stores { cache_stopped = true }) i.history.log c.drop_cache.new.calls.calls c.drop_cache.new.wires.traffic c.drop_cache.new.start i.agent) i.base t) (sym e.calls)
    (subst (λ (v : GroupView). IsKept v i.base (all_gone (length i.history.log.answers) i.calls))
    (sym (stopped_is stores i.history.log i.calls c.drop_cache.new.calls i.wires c.drop_cache.new.wires i.start c.drop_cache.new.start i.agent e.calls e.wires e.start))
    (cache_stop_kept old i.base i.calls c.self.invariant))

pub returns : goal.returns
returns g c =
    let i = c.self.inside in
    let e = c.drop_cache.ensures in
    let stores : Stores = stores_of (g.P.Store.state i.cache) i.base i.cache_stopped i.base_stopped i.pending in
    let old : GroupView = group_of stores i.history.log i.calls.calls i.wires.traffic i.start i.agent in
    let new : GroupView = group_of (record stores { cache_stopped = true }) i.history.log c.drop_cache.new.calls.calls c.drop_cache.new.wires.traffic c.drop_cache.new.start i.agent in
    let eq : new ≡ with_cache_stopped old =
    stopped_is stores i.history.log i.calls c.drop_cache.new.calls i.wires c.drop_cache.new.wires i.start c.drop_cache.new.start i.agent e.calls e.wires e.start in
    record {
      stopped = subst (λ (v : GroupView). new ≡ with_cache_stopped v) c.self.view_is eq;
      step = subst (λ (v : GroupView). IsStep None v new) c.self.view_is
          (subst (λ (v : GroupView). IsStep None old v) (sym eq) (stopping_cache_steps old i.base i.calls c.self.invariant));
    }
