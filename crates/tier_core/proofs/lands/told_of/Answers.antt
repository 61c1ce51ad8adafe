use Rattle.std.proofs.Common.{ap, subst, sym, ◌∙◌}
use Rattle.std.specs.Prelude.{IfOk, MatchOption}
use Rattle.tier_flight.specs.Ends.{FlightMap}
use Rattle.tier_core.specs.Lands.{IsDriven, IsUndriven, wrote_in}
use Rattle.tier_core.specs.declared.lands.Told.{Told}
use Rattle.tier_core.proofs.Told.{told_by}
use Rattle.tier_core.proofs.lands.told_of.Goals as goal

pub returns-in-Some : goal.returns-in-Some
returns-in-Some c =
    let w = c.in-Some.wrote in
    told_by c.args.wires.now.traffic c.args.epoch c.args.number w (sym (c.in-Some.ensures ∙ ap (wrote_in c.args.epoch) c.reply_of.ensures)) c.told_on.result
    (subst (λ (f : FlightMap). IfOk c.told_on.result (λ (told : _). MatchOption told (IsUndriven f w) (IsDriven f w))) c.flights-flights.ensures c.told_on.ensures)
