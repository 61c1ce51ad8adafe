use Rattle.std.proofs.Common.{Option, ap, subst, sym, ◌∙◌}
use Rattle.tier_core.proofs.Taken.{tells_driven}
use Rattle.tier_core.specs.Lacks.{TellsDriven}
use Rattle.tier_core.specs.Lands.{wrote_in}
use Rattle.tier_core.proofs.taking.is_told_of.Goals as goal
use Rattle.tier_flight.specs.Ends.{FlightMap}

pub returns-in-Some : goal.returns-in-Some
returns-in-Some c =
    tells_driven c.args.wires.now.traffic c.args.epoch c.args.number c.in-Some.wrote (sym (c.in-Some.ensures ∙ ap (wrote_in c.args.epoch) c.reply_of.ensures)) c.driven_by.result c.is_some.result c.is_some.ensures
    (subst (λ (f : FlightMap). TellsDriven f c.in-Some.wrote.opid c.driven_by.result) c.flights-flights.ensures c.driven_by.ensures)
