use Rattle.std.proofs.Common.{ap, ◌∙◌}
use Rattle.tier_traffic.specs.Messages.{replied_of}
use Rattle.tier_traffic.specs.Wires.{WiresView}
use Rattle.tier_traffic.proofs.Values.{found_value}
use Rattle.tier_traffic.proofs.wires.Wires.reply_of.Goals as goal

pub returns : goal.returns
returns c =
    c.get.ensures
    ∙ found_value (λ s. s.number) c.args.number c.self.inside.replies.held
    c.self.invariant.1
    ∙ ap (λ (w : WiresView). replied_of w.traffic.replies c.args.number) c.self.view_is
