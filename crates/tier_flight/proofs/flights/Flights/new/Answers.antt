use Rattle.std.proofs.Common.{sym, refl, subst}
use Rattle.tier_flight.specs.Ends.{FlightMap}
use Rattle.tier_flight.specs.Indexes.{IsIndexed}
use Rattle.tier_flight.specs.Numbers.{HaveOneRead, has_call, has_opid}
use Rattle.tier_flight.proofs.Indexed.{no_numbers}
use Rattle.tier_flight.proofs.OneRead.{no_reads}
use Rattle.tier_flight.proofs.flights.Flights.new.Goals as goal

pub invariant_of-result : goal.invariant_of-result
invariant_of-result c =
    let numbers = c.new-2.result in
    subst (λ (m : FlightMap). IsIndexed numbers.opids numbers.calls m × HaveOneRead m)
    (sym c.new.ensures) (
      record {
        opid = no_numbers has_opid numbers.opids (λ k. refl) c.new-2.ensures.opids;
        call = no_numbers has_call numbers.calls (λ k. refl) c.new-2.ensures.calls;
      },
      no_reads,
    )
