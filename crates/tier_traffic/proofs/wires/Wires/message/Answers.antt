use Rattle.std.proofs.Common.{ap, ◌∙◌}
use Rattle.tier_traffic.specs.Messages.{sent_of}
use Rattle.tier_traffic.specs.Wires.{WiresView}
use Rattle.tier_traffic.proofs.Values.{found_value}
use Rattle.tier_traffic.proofs.wires.Wires.message.Goals as goal

pub returns : goal.returns
returns c =
    c.get.ensures
    ∙ found_value (λ s. s.number) c.args.number c.self.inside.messages.held
    c.self.invariant.0
    ∙ ap (λ (w : WiresView). sent_of w.traffic.messages c.args.number) c.self.view_is
