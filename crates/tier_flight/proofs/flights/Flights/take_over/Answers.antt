use Rattle.std.proofs.Common.{◌==◌, sym, subst}
use Rattle.std.specs.FinMap as fin
use Rattle.tier_flight.specs.Changes.{IsUnheld, held_at}
use Rattle.tier_flight.specs.Ends.{FlightMap}
use Rattle.tier_flight.specs.Numbers.{IsIdle, has_call, has_opid}
use Rattle.tier_flight.proofs.Indexed.{kept, won}
use Rattle.tier_flight.proofs.OneRead.{one_held, one_put}
use Rattle.tier_flight.proofs.Standing.{held_call, held_opid, idle_there}
use Rattle.tier_flight.proofs.flights.Flights.take_over.Goals as goal

pub invariant_of-self : goal.invariant_of-self
invariant_of-self c =
    let m = c.self.inside.by_name in
    let name = c.args.name.now in
    let call = c.args.call in
    let free : IsUnheld (fin.get m name) =
    subst (λ (u : FlightMap). IsUnheld (fin.get u name)) (sym c.self.view_is) c.requires.free in
    let idle : IsIdle call m = subst (λ (u : FlightMap). IsIdle call u) (sym c.self.view_is)
    c.requires.idle in (
      record {
        opid = kept has_opid c.self.inside.numbers.opids m c.hold.new.flights name
            (held_at call (fin.get m name)) c.hold.ensures c.self.invariant.0.opid
            (held_opid call (fin.get m name));
        call = won has_call c.self.inside.numbers.calls c.enter.new.self m c.hold.new.flights name
            (held_at call (fin.get m name)) c.hold.ensures
            c.self.invariant.0.call (λ k. call == k) c.in-Ok.ensures.entered
            (held_call call (fin.get m name) free) (idle_there call m idle);
      },
      one_put m c.hold.new.flights name (held_at call (fin.get m name)) c.hold.ensures
          c.self.invariant.1
          (λ k. one_held call k (fin.get m name) (c.self.invariant.1 k name)),
    )
