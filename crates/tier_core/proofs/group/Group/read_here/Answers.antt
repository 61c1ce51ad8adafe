use Rattle.std.proofs.Common.{◌≡◌, Option, None, IfOk, ap, subst, sym, ◌∙◌}
use Rattle.tier_join.specs.Promises.{as_it_is}
use Rattle.tier_join.specs.Steps.{HasRec}
use Rattle.tier_types.specs.declared.record.TierRec.{TierRec}
use Rattle.tier_view.specs.Laws.{Keeps}
use Rattle.tier_view.specs.Locals.{with_cache}
use Rattle.tier_view.specs.Stores.{Stores}
use Rattle.tier_view.specs.Views.{GroupView, joined}
use Rattle.tier_view.specs.declared.parts.Pending.{Pending}
use Rattle.tier_core.specs.Keeps.{IsKept}
use Rattle.tier_core.specs.Parts.{group_of, stores_of}
use Rattle.tier_core.specs.Reads.{ReadsHere}
use Rattle.tier_core.proofs.ReadHere.{cache_is, read_kept, read_step, record_found, record_lawful}
use Rattle.tier_core.proofs.group.Group.read_here.Goals as goal

pub invariant_of-self : goal.invariant_of-self
invariant_of-self g c =
    let i = c.self.inside in
    let s = g.P.Store.state i.cache in
    let t = g.P.Store.state c.read_record.new.store in
    let none : i.pending ≡ None = ap (λ (v : GroupView). v.stores.pending) c.self.view_is ∙ c.requires.settled in
    let old : GroupView = group_of (stores_of s i.base i.cache_stopped i.base_stopped i.pending) i.history.log i.calls.calls i.wires.traffic i.start i.agent in
    subst (λ (v : GroupView). IsKept v i.base i.calls) (sym (cache_is s t i.base i.cache_stopped i.base_stopped i.pending i.history.log i.calls.calls i.wires.traffic i.start i.agent none))
    (read_kept old i.base i.calls c.args.name.now t c.read_record.result c.self.invariant none c.read_record.ensures.read c.read_record.ensures.sound)

pub returns-clause-read : goal.returns-clause-read
returns-clause-read g c =
    let i = c.self.inside in
    let s = g.P.Store.state i.cache in
    let t = g.P.Store.state c.read_record.new.store in
    let none : i.pending ≡ None = ap (λ (v : GroupView). v.stores.pending) c.self.view_is ∙ c.requires.settled in
    let new : GroupView = group_of (stores_of t i.base i.cache_stopped i.base_stopped i.pending) i.history.log i.calls.calls i.wires.traffic i.start i.agent in
    subst (λ (v : GroupView). ReadsHere c.args.name.now v new c.read_record.result) c.self.view_is
    (record { read = c.read_record.ensures.read; is = cache_is s t i.base i.cache_stopped i.base_stopped i.pending i.history.log i.calls.calls i.wires.traffic i.start i.agent none })

pub returns-clause-found : goal.returns-clause-found
returns-clause-found g c =
    let i = c.self.inside in
    let s = g.P.Store.state i.cache in
    let t = g.P.Store.state c.read_record.new.store in
    let none : i.pending ≡ None = ap (λ (v : GroupView). v.stores.pending) c.self.view_is ∙ c.requires.settled in
    let old : GroupView = group_of (stores_of s i.base i.cache_stopped i.base_stopped i.pending) i.history.log i.calls.calls i.wires.traffic i.start i.agent in
    subst (λ (v : GroupView). IfOk c.read_record.result (λ (rec : Option TierRec). HasRec (joined v) c.args.name.now rec))
    (sym (cache_is s t i.base i.cache_stopped i.base_stopped i.pending i.history.log i.calls.calls i.wires.traffic i.start i.agent none))
    (record_found old c.args.name.now t c.read_record.result c.self.invariant.cached (ap (λ (v : GroupView). v.stores.cache.live) c.self.view_is ∙ c.requires.live) c.read_record.ensures.read)

pub returns-clause-lawful : goal.returns-clause-lawful
returns-clause-lawful g c = record_lawful c.args.name.now (g.P.Store.state c.self.inside.cache) (g.P.Store.state c.read_record.new.store) c.read_record.result c.read_record.ensures.read

pub returns-clause-step : goal.returns-clause-step
returns-clause-step g c =
    let i = c.self.inside in
    let s = g.P.Store.state i.cache in
    let t = g.P.Store.state c.read_record.new.store in
    let none : i.pending ≡ None = ap (λ (v : GroupView). v.stores.pending) c.self.view_is ∙ c.requires.settled in
    let old : GroupView = group_of (stores_of s i.base i.cache_stopped i.base_stopped i.pending) i.history.log i.calls.calls i.wires.traffic i.start i.agent in
    let new : GroupView = group_of (stores_of t i.base i.cache_stopped i.base_stopped i.pending) i.history.log i.calls.calls i.wires.traffic i.start i.agent in
    subst (λ (v : GroupView). Keeps as_it_is None v new) c.self.view_is
    (subst (λ (v : GroupView). Keeps as_it_is None old v) (sym (cache_is s t i.base i.cache_stopped i.base_stopped i.pending i.history.log i.calls.calls i.wires.traffic i.start i.agent none))
    (read_step old c.args.name.now t c.read_record.result c.self.invariant.whole none c.read_record.ensures.read))

pub read_record-requires : goal.read_record-requires
read_record-requires g c = record { live = ap (λ (v : GroupView). v.stores.cache.live) c.self.view_is ∙ c.requires.live; sound = c.self.invariant.cached }
