use Rattle.std.proofs.Common.{arith, ◌+◌, ◌<◌, ◌^◌}
use mir.Val.{bool_byte}
use Rattle.tier_traffic.proofs.Counted.{dropped}
use Rattle.tier_traffic.proofs.works.Works.drop_call.Goals as goal

pub overflow_sub-self : goal.overflow_sub-self
overflow_sub-self c =
    let in_ = c.self.inside in
    (dropped c.args.call in_.flights c.drop_call.new.self c.drop_call.ensures in_.driven in_.left
    c.drives-leaves.result c.self.invariant c.drives-leaves.ensures).1

pub overflow_add-self : goal.overflow_add-self
overflow_add-self c =
    let in_ = c.self.inside in
    let few : in_.left + bool_byte c.drives-leaves.result < 2 ^ 64 =
    (dropped c.args.call in_.flights c.drop_call.new.self c.drop_call.ensures in_.driven in_.left
    c.drives-leaves.result c.self.invariant c.drives-leaves.ensures).2 in omega (arith, few)

pub invariant_of-self : goal.invariant_of-self
invariant_of-self c =
    let in_ = c.self.inside in
    (dropped c.args.call in_.flights c.drop_call.new.self c.drop_call.ensures in_.driven in_.left
    c.drives-leaves.result c.self.invariant c.drives-leaves.ensures).0
