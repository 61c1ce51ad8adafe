use Rattle.std.proofs.Common.{ap, arith, subst, sym, ◌∙◌, ◌+◌, ◌<◌, ◌^◌}
use mir.Val.{bool_byte}
use Rattle.std.specs.FinMap as fin
use Rattle.tier_flight.specs.Changes.{IsUnheld}
use Rattle.tier_flight.specs.Ends.{FlightMap}
use Rattle.tier_traffic.specs.Left.{is_left, passes}
use Rattle.tier_traffic.proofs.Counted.{taken}
use Rattle.tier_traffic.proofs.works.Works.take_over.Goals as goal

pub overflow_sub-self : goal.overflow_sub-self
overflow_sub-self c =
    let in_ = c.self.inside in
    let free : IsUnheld (fin.get in_.flights c.args.name.now) =
    subst (λ (m : FlightMap). IsUnheld (fin.get m c.args.name.now)) (sym c.self.view_is)
    c.requires.free in
    (taken in_.driven in_.left in_.flights c.take_over.new.self c.args.name.now c.self.invariant
    c.args.call c.is_left_at-taken.result free c.in_ok-take_over.ensures.taken
    (c.is_left_at-taken.ensures ∙ ap (passes is_left) c.get.ensures)).1

pub overflow_add-self : goal.overflow_add-self
overflow_add-self c =
    let in_ = c.self.inside in
    let free : IsUnheld (fin.get in_.flights c.args.name.now) =
    subst (λ (m : FlightMap). IsUnheld (fin.get m c.args.name.now)) (sym c.self.view_is)
    c.requires.free in
    let few : in_.driven + bool_byte c.is_left_at-taken.result < 2 ^ 64 =
    (taken in_.driven in_.left in_.flights c.take_over.new.self c.args.name.now c.self.invariant
    c.args.call c.is_left_at-taken.result free c.in_ok-take_over.ensures.taken
    (c.is_left_at-taken.ensures ∙ ap (passes is_left) c.get.ensures)).2 in omega (arith, few)

pub invariant_of-self-2 : goal.invariant_of-self-2
invariant_of-self-2 c =
    let in_ = c.self.inside in
    let free : IsUnheld (fin.get in_.flights c.args.name.now) =
    subst (λ (m : FlightMap). IsUnheld (fin.get m c.args.name.now)) (sym c.self.view_is)
    c.requires.free in
    (taken in_.driven in_.left in_.flights c.take_over.new.self c.args.name.now c.self.invariant
    c.args.call c.is_left_at-taken.result free c.in_ok-take_over.ensures.taken
    (c.is_left_at-taken.ensures ∙ ap (passes is_left) c.get.ensures)).0
