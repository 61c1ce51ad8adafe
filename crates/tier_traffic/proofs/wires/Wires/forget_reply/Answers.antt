use Rattle.std.proofs.Common.{ap, subst, sym, ◌∙◌}
use Rattle.tier_view.specs.Changes.{without_reply}
use Rattle.tier_view.specs.declared.parts.Replied.{Replied}
use Rattle.tier_traffic.specs.Numbered.{NumberedView}
use Rattle.tier_traffic.specs.Wires.{WiresView, carrying}
use Rattle.tier_traffic.proofs.Values.{AreUnder, under_taken}
use Rattle.tier_traffic.proofs.Wired.{reply_out}
use Rattle.tier_traffic.proofs.wires.Wires.forget_reply.Goals as goal

pub invariant_of-self : goal.invariant_of-self
invariant_of-self c = (
  c.self.invariant.0,
  subst (AreUnder (λ s. s.number)) (sym (ap (λ (v : NumberedView Replied). v.held) c.remove.ensures))
      (under_taken (λ s. s.number) c.args.number c.self.inside.replies.held c.self.invariant.1),
)

pub returns : goal.returns
returns c =
    reply_out c.self.inside.works c.self.inside.begun c.self.inside.messages c.self.inside.replies c.remove.new.self
    c.self.inside.awaited c.self.inside.noted c.args.number
    c.self.invariant.1 c.remove.ensures
    ∙ ap (λ (w : WiresView). carrying (without_reply c.args.number w.traffic) w) c.self.view_is
