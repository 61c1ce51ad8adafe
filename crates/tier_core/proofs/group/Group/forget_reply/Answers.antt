use Rattle.std.proofs.Common.{◌≡◌, None, ap, subst, sym, ◌∙◌}
use Rattle.tier_traffic.specs.Wires.{WiresView}
use Rattle.tier_view.proofs.StartingLosses.{losing_replies_keeps}
use Rattle.tier_view.specs.Starts.{forgot_reply}
use Rattle.tier_view.specs.Stores.{Stores}
use Rattle.tier_view.specs.Views.{GroupView}
use Rattle.tier_core.specs.Keeps.{IsKept}
use Rattle.tier_core.specs.Parts.{group_of, stores_of}
use Rattle.tier_core.specs.Steps.{IsStep}
use Rattle.tier_core.proofs.Lost.{reply_kept}
use Rattle.tier_core.proofs.group.Group.forget_reply.Goals as goal

pub invariant_of-self : goal.invariant_of-self
invariant_of-self g c =
    let i = c.self.inside in
    let stores : Stores = stores_of (g.P.Store.state i.cache) i.base i.cache_stopped i.base_stopped i.pending in
    let old : GroupView = group_of stores i.history.log i.calls.calls i.wires.traffic i.start i.agent in
    subst (λ (w : WiresView). IsKept (group_of stores i.history.log i.calls.calls w.traffic i.start i.agent) i.base i.calls) (sym c.forget_reply.ensures)
    (reply_kept old i.base i.calls c.args.number c.self.invariant)

pub returns : goal.returns
returns g c =
    let i = c.self.inside in
    let stores : Stores = stores_of (g.P.Store.state i.cache) i.base i.cache_stopped i.base_stopped i.pending in
    let old : GroupView = group_of stores i.history.log i.calls.calls i.wires.traffic i.start i.agent in
    let new : GroupView = group_of stores i.history.log i.calls.calls c.forget_reply.new.self.traffic i.start i.agent in
    let is : new ≡ forgot_reply c.args.number old = ap (λ (w : WiresView). group_of stores i.history.log i.calls.calls w.traffic i.start i.agent) c.forget_reply.ensures in
    record {
      forgot = is ∙ ap (forgot_reply c.args.number) c.self.view_is;
      step = subst (λ (v : GroupView). IsStep None v new) c.self.view_is
          (subst (λ (v : GroupView). IsStep None old v) (sym is) (losing_replies_keeps c.args.number old c.self.invariant.whole));
    }
