use Rattle.std.proofs.Common.{◌≡◌, None, IfOk, OnErr, OnOk, ap, subst, ◌∙◌}
use Rattle.tier_view.specs.Answers.{KeepsQuietly}
use Rattle.tier_view.specs.Stores.{Stores}
use Rattle.tier_view.specs.Views.{GroupView}
use Rattle.tier_core.specs.Parts.{group_of, stores_of}
use Rattle.tier_core.specs.Promotes.{AsksOn}
use Rattle.tier_core.proofs.Chunks.{asks_all}
use Rattle.tier_core.proofs.group.Group.ask_chunk.Goals as goal

pub invariant_of-self : goal.invariant_of-self
invariant_of-self g c =
    let i = c.self.inside in
    let b = c.ask_chunk in
    let stores : Stores = stores_of (g.P.Store.state i.cache) i.base i.cache_stopped i.base_stopped
    i.pending in
    let old : GroupView = group_of stores i.history.log i.calls.calls i.wires.traffic i.start
    i.agent in
    let none : i.pending ≡ None = ap (λ (v : GroupView). v.stores.pending) c.self.view_is
    ∙ c.requires.settled in
    (asks_all old i.base i.calls c.self.invariant none c.args.name.now b.new.wires.traffic b.result
    b.ensures.asks b.ensures.refused).kept

pub returns : goal.returns
returns g c =
    let i = c.self.inside in
    let b = c.ask_chunk in
    let stores : Stores = stores_of (g.P.Store.state i.cache) i.base i.cache_stopped i.base_stopped
    i.pending in
    let old : GroupView = group_of stores i.history.log i.calls.calls i.wires.traffic i.start
    i.agent in
    let new : GroupView = group_of stores i.history.log i.calls.calls b.new.wires.traffic i.start
    i.agent in
    let none : i.pending ≡ None = ap (λ (v : GroupView). v.stores.pending) c.self.view_is
    ∙ c.requires.settled in
    let all = asks_all old i.base i.calls c.self.invariant none c.args.name.now b.new.wires.traffic
    b.result b.ensures.asks b.ensures.refused in
    record {
      asks = subst (λ (v : GroupView). IfOk b.result
          (AsksOn c.args.name.now v new)) c.self.view_is all.is;
      step = subst (λ (v : GroupView). OnOk b.result (KeepsQuietly v new)) c.self.view_is all.step;
      refused = subst (λ (v : GroupView). OnErr b.result (new ≡ v)) c.self.view_is all.same;
    }
