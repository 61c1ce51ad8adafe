use Rattle.std.proofs.Common.{subst}
use Rattle.tier_flight.specs.Numbers.{HaveOneRead}
use Rattle.tier_flight.proofs.flights.Flights.reads_are_one.Goals as goal

pub returns : goal.returns
returns c = subst HaveOneRead c.self.view_is c.self.invariant.1
