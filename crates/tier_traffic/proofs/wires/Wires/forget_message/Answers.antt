use Rattle.std.proofs.Common.{ap, subst, sym, ◌∙◌}
use Rattle.tier_view.specs.Changes.{without_message}
use Rattle.tier_view.specs.declared.parts.Sent.{Sent}
use Rattle.tier_traffic.specs.Numbered.{NumberedView}
use Rattle.tier_traffic.specs.Wires.{WiresView, carrying}
use Rattle.tier_traffic.proofs.Values.{AreUnder, under_taken}
use Rattle.tier_traffic.proofs.Wired.{message_out}
use Rattle.tier_traffic.proofs.wires.Wires.forget_message.Goals as goal

pub invariant_of-self : goal.invariant_of-self
invariant_of-self c = (
  subst (AreUnder (λ s. s.number)) (sym (ap (λ (v : NumberedView Sent). v.held) c.remove.ensures))
      (under_taken (λ s. s.number) c.args.number c.self.inside.messages.held c.self.invariant.0),
  c.self.invariant.1,
)

pub returns : goal.returns
returns c =
    message_out c.self.inside.works c.self.inside.begun c.self.inside.messages c.remove.new.self c.self.inside.replies
    c.self.inside.awaited c.self.inside.noted c.args.number
    c.self.invariant.0 c.remove.ensures
    ∙ ap (λ (w : WiresView). carrying (without_message c.args.number w.traffic) w) c.self.view_is
