use Rattle.std.proofs.Common.{subst, sym}
use Rattle.std.specs.FinMap as fin
use Rattle.tier_flight.specs.Ends.{FlightMap}
use Rattle.tier_flight.specs.Joins.{MayJoin}
use Rattle.tier_traffic.proofs.Counted.{added}
use Rattle.tier_traffic.proofs.works.Works.add.Goals as goal

pub invariant_of-self-2 : goal.invariant_of-self-2
invariant_of-self-2 c =
    let in_ = c.self.inside in
    added in_.driven in_.left in_.flights c.add.new.self c.args.name c.args.work c.is_driven.result
    c.is_left.result c.self.invariant c.if-self.false
    (subst (λ (m : FlightMap). MayJoin (fin.get m c.args.name) c.args.work) (sym c.self.view_is)
    c.requires.place) c.in_ok-add.ensures.added c.is_driven.ensures c.is_left.ensures
