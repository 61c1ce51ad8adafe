use Rattle.std.proofs.Common.{None, Some, subst, sym, true≢false}
use Rattle.tier_flight.specs.Ends.{FlightMap}
use Rattle.tier_flight.specs.Numbers.{IsNameBy, has_call}
use Rattle.tier_core.proofs.Blocked.{fresh_where, not_fresh}
use Rattle.tier_core.proofs.blocking.is_fresh.Goals as goal

pub returns-in-Some : goal.returns-in-Some
returns-in-Some c = (
  λ no. absurd (true≢false (sym no)),
  λ fresh. absurd (not_fresh c.args.history.now.log c.args.wires.now.traffic c.args.call c.in-Some.field-0.now
      (subst (λ (f : FlightMap). IsNameBy has_call f c.args.call (Some c.in-Some.field-0.now)) c.flights.ensures c.in-Some.ensures) fresh),
)

pub returns-else-has_sent : goal.returns-else-has_sent
returns-else-has_sent c =
    fresh_where c.args.history.now.log c.args.wires.now.traffic c.args.call c.has_sent.result c.may_act.result
    (subst (λ (f : FlightMap). IsNameBy has_call f c.args.call None) c.flights.ensures c.in-None.ensures) c.has_sent.ensures c.if-has_sent.false c.may_act.ensures
