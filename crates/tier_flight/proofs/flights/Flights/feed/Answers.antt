use Rattle.tier_flight.proofs.OneRead.{fed_one}
use Rattle.tier_flight.proofs.Standing.{fed_indexed}
use Rattle.tier_flight.proofs.flights.Flights.feed.Goals as goal

pub invariant_of-self : goal.invariant_of-self
invariant_of-self c = (
  fed_indexed c.self.inside.numbers.opids c.self.inside.numbers.calls
      c.self.inside.by_name c.feed.new.flights c.args.name.now c.args.chunk
      c.feed.result c.self.invariant.0 c.feed.ensures.fed c.feed.ensures.refused,
  fed_one c.self.inside.by_name c.feed.new.flights c.args.name.now c.args.chunk
      c.feed.result c.self.invariant.1 c.feed.ensures.fed c.feed.ensures.refused,
)
