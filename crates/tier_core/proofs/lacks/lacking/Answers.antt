use Rattle.std.proofs.Common.{None, ap, subst, ◌∙◌}
use Rattle.tier_flight.specs.Ends.{FlightMap}
use Rattle.tier_core.specs.Lacks.{TellsDriven, lacked_in}
use Rattle.tier_core.proofs.Lacked.{not_lacked}
use Rattle.tier_core.proofs.lacks.lacking.Goals as goal

pub returns-in-None-driven_by : goal.returns-in-None-driven_by
returns-in-None-driven_by c =
    not_lacked c.args.history.now.log c.args.calls.now.calls.entries c.args.wires.now.traffic c.args.epoch c.args.number c.in-Some.lacked
    (c.in-Some.ensures ∙ ap (lacked_in c.args.epoch) c.reply_of.ensures)
    (subst (λ (f : FlightMap). TellsDriven f c.in-Some.lacked.opid None) c.flights-flights.ensures c.in-None-driven_by.ensures)
