use Rattle.tier_flight.proofs.Fed.{fed_in}
use Rattle.tier_flight.proofs.holding.feed.Goals as goal

pub returns-in-Ok-clause-fed : goal.returns-in-Ok-clause-fed
returns-in-Ok-clause-fed c = fed_in c.args.flights.now c.swap.new.self c.put_left.new.flights
    c.args.name.now c.in_between.result c.in-Ok.work c.fed-work.result.0
    c.in-Ok.ensures.put c.in-Ok.ensures.before c.put_left.ensures c.args.chunk c.fed-work.result.1
    c.fed-work.ensures.adds c.fed-work.ensures.stays
