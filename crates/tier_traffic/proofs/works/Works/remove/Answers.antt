use Rattle.std.proofs.Common.{refl, sym, ◌∙◌}
use Rattle.tier_traffic.specs.Left.{is_left}
use Rattle.tier_traffic.proofs.Counted.{not_removed, removed}
use Rattle.tier_traffic.proofs.works.Works.remove.Goals as goal

pub overflow_sub-self : goal.overflow_sub-self
overflow_sub-self c =
    let in_ = c.self.inside in
    (removed in_.driven in_.left in_.flights c.remove.new.self c.args.name.now c.self.invariant
    c.in-Some.work c.is_driven.result (is_left c.in-Some.work) c.remove.ensures.taken
    (sym c.remove.ensures.before ∙ c.in-Some.is) c.is_driven.ensures refl).1

pub overflow_sub-self-in-Some : goal.overflow_sub-self-in-Some
overflow_sub-self-in-Some c =
    let in_ = c.self.inside in
    (removed in_.driven in_.left in_.flights c.remove.new.self c.args.name.now c.self.invariant
    c.in-Some.work c.is_driven.result c.is_left.result c.remove.ensures.taken
    (sym c.remove.ensures.before ∙ c.in-Some.is) c.is_driven.ensures c.is_left.ensures).2

pub invariant_of-self : goal.invariant_of-self
invariant_of-self c =
    let in_ = c.self.inside in
    (removed in_.driven in_.left in_.flights c.remove.new.self c.args.name.now c.self.invariant
    c.in-Some.work c.is_driven.result c.is_left.result c.remove.ensures.taken
    (sym c.remove.ensures.before ∙ c.in-Some.is) c.is_driven.ensures c.is_left.ensures).0

pub invariant_of-self-in-None : goal.invariant_of-self-in-None
invariant_of-self-in-None c =
    let in_ = c.self.inside in
    not_removed in_.driven in_.left in_.flights c.remove.new.self c.args.name.now c.self.invariant
    c.remove.ensures.taken (sym c.remove.ensures.before ∙ c.in-None.is)
