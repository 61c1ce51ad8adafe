use Rattle.std.proofs.Common.{◌≡◌, Option, None, IfOk, refl, ap, subst, sym, ◌∙◌}
use Rattle.obj_model.specs.declared.state.NameState.{NameState}
use Rattle.tier_join.specs.Promises.{as_it_is}
use Rattle.tier_join.specs.Steps.{HasState}
use Rattle.tier_view.specs.Laws.{Keeps}
use Rattle.tier_view.specs.Views.{GroupView, joined}
use Rattle.tier_core.specs.Keeps.{IsKept}
use Rattle.tier_core.specs.Parts.{group_of, stores_of}
use Rattle.tier_core.specs.Reads.{ReadsThere}
use Rattle.tier_core.proofs.ReadThere.{base_in, live_base, state_lawful, there_found, there_kept, there_read, there_step}
use Rattle.tier_core.proofs.group.Group.read_there.Goals as goal

pub state-requires : goal.state-requires
state-requires g c = record { live = live_base c.self.inside.base (ap (λ (v : GroupView). v.stores.base.live) c.self.view_is ∙ c.requires.live) }

pub invariant_of-self : goal.invariant_of-self
invariant_of-self g c =
    let i = c.self.inside in
    let cache = g.P.Store.state i.cache in
    let none : i.pending ≡ None = ap (λ (v : GroupView). v.stores.pending) c.self.view_is ∙ c.requires.settled in
    let old : GroupView = group_of (stores_of cache i.base i.cache_stopped i.base_stopped i.pending) i.history.log i.calls.calls i.wires.traffic i.start i.agent in
    subst (λ (v : GroupView). IsKept v c.state.new.self i.calls)
    (sym (base_in cache i.base c.state.new.self i.cache_stopped i.base_stopped i.pending i.history.log i.calls.calls i.wires.traffic i.start i.agent none))
    (there_kept old i.base c.state.new.self i.calls c.args.name.now c.state.result c.self.invariant refl (ap (λ (v : GroupView). v.stores.base.live) c.self.view_is ∙ c.requires.live) none c.state.ensures.read c.state.ensures.sound)

pub returns : goal.returns
returns g c =
    let i = c.self.inside in
    let cache = g.P.Store.state i.cache in
    let none : i.pending ≡ None = ap (λ (v : GroupView). v.stores.pending) c.self.view_is ∙ c.requires.settled in
    let live = ap (λ (v : GroupView). v.stores.base.live) c.self.view_is ∙ c.requires.live in
    let old : GroupView = group_of (stores_of cache i.base i.cache_stopped i.base_stopped i.pending) i.history.log i.calls.calls i.wires.traffic i.start i.agent in
    let new : GroupView = group_of (stores_of cache c.state.new.self i.cache_stopped i.base_stopped i.pending) i.history.log i.calls.calls i.wires.traffic i.start i.agent in
    let eq = base_in cache i.base c.state.new.self i.cache_stopped i.base_stopped i.pending i.history.log i.calls.calls i.wires.traffic i.start i.agent none in
    record {
      read = subst (λ (v : GroupView). ReadsThere c.args.name.now v new c.state.result) c.self.view_is
          (subst (λ (v : GroupView). ReadsThere c.args.name.now old v c.state.result) (sym eq)
          (record { read = there_read old i.base c.state.new.self i.calls c.args.name.now c.state.result c.self.invariant refl live none c.state.ensures.read c.state.ensures.sound; is = refl }));
      found = subst (λ (v : GroupView). IfOk c.state.result (λ (s : NameState). HasState (joined v) c.args.name.now s)) (sym eq)
          (there_found old i.base c.state.new.self i.calls c.args.name.now c.state.result c.self.invariant refl live none c.state.ensures.read c.state.ensures.sound);
      lawful = state_lawful c.args.name.now i.base c.state.new.self c.state.result c.state.ensures.read;
      step = subst (λ (v : GroupView). Keeps as_it_is None v new) c.self.view_is
          (subst (λ (v : GroupView). Keeps as_it_is None old v) (sym eq)
          (there_step old i.base c.state.new.self i.calls c.args.name.now c.state.result c.self.invariant refl live none c.state.ensures.read c.state.ensures.sound));
    }
