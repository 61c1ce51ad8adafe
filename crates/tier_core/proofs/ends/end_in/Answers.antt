use Rattle.std.proofs.Common.{subst}
use Rattle.tier_flight.specs.Numbers.{HaveOneRead}
use Rattle.tier_core.proofs.ends.end_in.Goals as goal

pub returns-clause-reads : goal.returns-clause-reads
returns-clause-reads c = subst HaveOneRead c.flights.ensures c.reads_are_one.ensures
