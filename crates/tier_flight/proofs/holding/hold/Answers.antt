use Rattle.std.proofs.Common.{◌∙◌, sym, ap}
use Rattle.tier_flight.specs.Ends.{put_left}
use Rattle.tier_flight.specs.Changes.{held_at}
use Rattle.tier_flight.proofs.Swaps.{left_twice}
use Rattle.tier_flight.proofs.holding.hold.Goals as goal

pub returns-in-Ok : goal.returns-in-Ok
returns-in-Ok c =
    let old = c.args.flights.now in
    let name = c.args.name.now in
    c.put_left.ensures
    ∙ ap (λ m. put_left m name c.held.result) c.in-Ok.ensures.put
    ∙ left_twice old name c.in_between.result c.held.result
    ∙ ap (put_left old name)
    (c.held.ensures ∙ sym (ap (held_at c.args.call) c.in-Ok.ensures.before))
