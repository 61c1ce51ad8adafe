use Rattle.std.proofs.Common.{◌≡◌, None, ap, subst, sym, ◌∙◌}
use Rattle.tier_join.specs.Promises.{as_it_is}
use Rattle.tier_view.specs.Laws.{Keeps}
use Rattle.tier_view.specs.Views.{GroupView}
use Rattle.tier_core.specs.Keeps.{IsKept}
use Rattle.tier_core.specs.Parts.{group_of, stores_of}
use Rattle.tier_core.specs.Raises.{Raises}
use Rattle.tier_core.proofs.Raised.{IsDown, all_gone, raised_all, unraised_step, unread_kept, unread_step}
use Rattle.tier_core.proofs.ReadHere.{cache_is}
use Rattle.tier_core.proofs.group.Group.raise_epoch.Goals as goal

-- ---- the epoch above both is above its limit

pub returns-in_default-clause-step : goal.returns-in_default-clause-step
returns-in_default-clause-step g c =
    let none = ap (λ (v : GroupView). v.stores.pending) c.self.view_is ∙ c.requires.settled in
    let i = c.self.inside in
    let old : GroupView = group_of (stores_of (g.P.Store.state i.cache) i.base i.cache_stopped i.base_stopped i.pending) i.history.log i.calls.calls i.wires.traffic i.start i.agent in
    subst (λ (v : GroupView). Keeps as_it_is None v old) c.self.view_is (unraised_step old c.self.invariant.whole none)

-- ---- the epoch was not read

pub invariant_of-self-in-Err : goal.invariant_of-self-in-Err
invariant_of-self-in-Err g c =
    let i = c.self.inside in
    let s = g.P.Store.state i.cache in
    let t = g.P.Store.state c.read_epoch_of.new.store in
    let none : i.pending ≡ None = ap (λ (v : GroupView). v.stores.pending) c.self.view_is ∙ c.requires.settled in
    let old : GroupView = group_of (stores_of s i.base i.cache_stopped i.base_stopped i.pending) i.history.log i.calls.calls i.wires.traffic i.start i.agent in
    subst (λ (v : GroupView). IsKept v i.base i.calls) (sym (cache_is s t i.base i.cache_stopped i.base_stopped i.pending i.history.log i.calls.calls i.wires.traffic i.start i.agent none))
    (unread_kept old i.base i.calls t c.in-Err.fault c.self.invariant none c.in-Err.ensures.read c.in-Err.ensures.sound)

pub returns-in-Err-clause-step : goal.returns-in-Err-clause-step
returns-in-Err-clause-step g c =
    let i = c.self.inside in
    let s = g.P.Store.state i.cache in
    let t = g.P.Store.state c.read_epoch_of.new.store in
    let none : i.pending ≡ None = ap (λ (v : GroupView). v.stores.pending) c.self.view_is ∙ c.requires.settled in
    let old : GroupView = group_of (stores_of s i.base i.cache_stopped i.base_stopped i.pending) i.history.log i.calls.calls i.wires.traffic i.start i.agent in
    let new : GroupView = group_of (stores_of t i.base i.cache_stopped i.base_stopped i.pending) i.history.log i.calls.calls i.wires.traffic i.start i.agent in
    subst (λ (v : GroupView). Keeps as_it_is None v new) c.self.view_is
    (subst (λ (w : GroupView). Keeps as_it_is None old w) (sym (cache_is s t i.base i.cache_stopped i.base_stopped i.pending i.history.log i.calls.calls i.wires.traffic i.start i.agent none))
    (unread_step old t c.in-Err.fault c.self.invariant.whole none c.in-Err.ensures.read))

-- ---- its commit came to something

pub finish-requires : goal.finish-requires
finish-requires g c =
    let i = c.self.inside in
    let old : GroupView = group_of (stores_of (g.P.Store.state i.cache) i.base i.cache_stopped i.base_stopped i.pending) i.history.log i.calls.calls i.wires.traffic i.start i.agent in
    all_gone old c.self.invariant.whole (ap (λ (v : GroupView). v.standing.phase) c.self.view_is ∙ c.requires.down)

pub invariant_of-self-2 : goal.invariant_of-self-2
invariant_of-self-2 g c =
    let i = c.self.inside in
    let s = g.P.Store.state i.cache in
    let t = g.P.Store.state c.put_epoch-made.new.store in
    let is = subst IsDown (sym c.self.view_is) (record { live = c.requires.live; runs = c.requires.runs; settled = c.requires.settled; down = c.requires.down }) in
    let all =
    raised_all s (g.P.Store.state c.read_epoch_of.new.store) t i.base i.cache_stopped i.base_stopped i.pending c.finish.new.pending i.history.log i.calls c.finish.new.calls i.wires.traffic
    i.start c.finish.new.start i.agent c.in-Some.epoch c.in_default-read_epoch_of.field-0 c.put_epoch-made.result c.told.result is c.self.invariant c.in-Some.ensures.0 c.in-Some.ensures.1
    c.in_default-read_epoch_of.ensures.read c.put_epoch-made.ensures.put c.put_epoch-made.ensures.sound c.finish.ensures.pending c.finish.ensures.calls c.finish.ensures.start c.told.ensures in
    all.kept

pub returns-clause-raised : goal.returns-clause-raised
returns-clause-raised g c =
    let i = c.self.inside in
    let s = g.P.Store.state i.cache in
    let t = g.P.Store.state c.put_epoch-made.new.store in
    let is = subst IsDown (sym c.self.view_is) (record { live = c.requires.live; runs = c.requires.runs; settled = c.requires.settled; down = c.requires.down }) in
    let all =
    raised_all s (g.P.Store.state c.read_epoch_of.new.store) t i.base i.cache_stopped i.base_stopped i.pending c.finish.new.pending i.history.log i.calls c.finish.new.calls i.wires.traffic
    i.start c.finish.new.start i.agent c.in-Some.epoch c.in_default-read_epoch_of.field-0 c.put_epoch-made.result c.told.result is c.self.invariant c.in-Some.ensures.0 c.in-Some.ensures.1
    c.in_default-read_epoch_of.ensures.read c.put_epoch-made.ensures.put c.put_epoch-made.ensures.sound c.finish.ensures.pending c.finish.ensures.calls c.finish.ensures.start c.told.ensures in
    let new : GroupView = group_of (stores_of t i.base i.cache_stopped i.base_stopped c.finish.new.pending) i.history.log c.finish.new.calls.calls i.wires.traffic c.finish.new.start i.agent in
    subst (λ (v : GroupView). Raises v new c.told.result) c.self.view_is all.is

pub returns-clause-step : goal.returns-clause-step
returns-clause-step g c =
    let i = c.self.inside in
    let s = g.P.Store.state i.cache in
    let t = g.P.Store.state c.put_epoch-made.new.store in
    let is = subst IsDown (sym c.self.view_is) (record { live = c.requires.live; runs = c.requires.runs; settled = c.requires.settled; down = c.requires.down }) in
    let all =
    raised_all s (g.P.Store.state c.read_epoch_of.new.store) t i.base i.cache_stopped i.base_stopped i.pending c.finish.new.pending i.history.log i.calls c.finish.new.calls i.wires.traffic
    i.start c.finish.new.start i.agent c.in-Some.epoch c.in_default-read_epoch_of.field-0 c.put_epoch-made.result c.told.result is c.self.invariant c.in-Some.ensures.0 c.in-Some.ensures.1
    c.in_default-read_epoch_of.ensures.read c.put_epoch-made.ensures.put c.put_epoch-made.ensures.sound c.finish.ensures.pending c.finish.ensures.calls c.finish.ensures.start c.told.ensures in
    let new : GroupView = group_of (stores_of t i.base i.cache_stopped i.base_stopped c.finish.new.pending) i.history.log c.finish.new.calls.calls i.wires.traffic c.finish.new.start i.agent in
    subst (λ (v : GroupView). Keeps as_it_is None v new) c.self.view_is all.step
