use Rattle.std.proofs.Common.{◌≡◌, None, Option, ap, subst, sym, ◌∙◌}
use Rattle.tier_view.specs.Stores.{Stores}
use Rattle.tier_view.specs.declared.parts.Replied.{Replied}
use Rattle.tier_view.specs.Views.{GroupView}
use Rattle.tier_core.specs.Fences.{Hears, tells_fenced}
use Rattle.tier_core.specs.Keeps.{IsKept}
use Rattle.tier_core.specs.Parts.{group_of, stores_of}
use Rattle.tier_core.specs.Steps.{IsStep}
use Rattle.tier_core.specs.declared.parts.Start.{Start}
use Rattle.tier_core.proofs.Fenced.{heard_hears, heard_is, heard_kept, heard_step, hearing}
use Rattle.tier_core.proofs.group.Group.hear_fenced.Goals as goal

pub invariant_of-self : goal.invariant_of-self
invariant_of-self g c =
    let i = c.self.inside in
    let stores : Stores = stores_of (g.P.Store.state i.cache) i.base i.cache_stopped i.base_stopped i.pending in
    let old : GroupView = group_of stores i.history.log i.calls.calls i.wires.traffic i.start i.agent in
    let x = c.hear.result in
    let is = c.tells_fenced-fenced.ensures ∙ ap {A = Option Replied} (tells_fenced i.start.cache_epoch) c.reply_of.ensures in
    let hears : Hears c.args.reply old (hearing x old) x = heard_hears old c.args.reply c.tells_fenced-fenced.result x is c.hear.ensures.heard in
    subst (λ (s : Start). IsKept (group_of stores i.history.log i.calls.calls i.wires.traffic s i.agent) i.base i.calls) (sym c.hear.ensures.start)
    (subst (λ (v : GroupView). IsKept v i.base i.calls) (sym (heard_is stores i.history.log i.calls.calls i.wires.traffic i.start i.agent x))
    (heard_kept old i.base i.calls x c.self.invariant (heard_step old c.args.reply x c.self.invariant.whole hears).0))

pub returns : goal.returns
returns g c =
    let i = c.self.inside in
    let stores : Stores = stores_of (g.P.Store.state i.cache) i.base i.cache_stopped i.base_stopped i.pending in
    let old : GroupView = group_of stores i.history.log i.calls.calls i.wires.traffic i.start i.agent in
    let new : GroupView = group_of stores i.history.log i.calls.calls i.wires.traffic c.hear.new.start i.agent in
    let x = c.hear.result in
    let is = c.tells_fenced-fenced.ensures ∙ ap {A = Option Replied} (tells_fenced i.start.cache_epoch) c.reply_of.ensures in
    let hears : Hears c.args.reply old (hearing x old) x = heard_hears old c.args.reply c.tells_fenced-fenced.result x is c.hear.ensures.heard in
    let same : new ≡ hearing x old =
    ap (λ (s : Start). group_of stores i.history.log i.calls.calls i.wires.traffic s i.agent) c.hear.ensures.start
    ∙ heard_is stores i.history.log i.calls.calls i.wires.traffic i.start i.agent x in
    record {
      heard = subst (λ (v : GroupView). Hears c.args.reply v new x) c.self.view_is (subst (λ (w : GroupView). Hears c.args.reply old w x) (sym same) hears);
      step = subst (λ (v : GroupView). IsStep None v new) c.self.view_is
          (subst (λ (w : GroupView). IsStep None old w) (sym same) (heard_step old c.args.reply x c.self.invariant.whole hears));
    }
