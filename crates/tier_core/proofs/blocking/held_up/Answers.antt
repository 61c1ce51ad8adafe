use Rattle.std.proofs.Common.{Some, ap, subst, sym, ◌∙◌, true≢false}
use Rattle.std.specs.FinMap as fin
use Rattle.tier_flight.specs.Busy.{busy_at}
use Rattle.tier_flight.specs.Ends.{FlightMap}
use Rattle.tier_core.proofs.Blocked.{not_held}
use Rattle.tier_core.proofs.blocking.held_up.Goals as goal

pub returns-then-not-is_others : goal.returns-then-not-is_others
returns-then-not-is_others c = λ b held.
    not_held c.args.history.now.log c.args.calls.now.calls c.args.wires.now.traffic c.args.call c.args.name.now c.args.want c.in-Some.busy b
    (c.in-Some.ensures ∙ ap (λ (f : FlightMap). busy_at (fin.get f c.args.name.now) c.args.want) c.flights.ensures)
    (λ other. true≢false (sym (c.is_others.ensures.1 other) ∙ c.if-not-is_others.true)) held

pub returns-else-not-is_others : goal.returns-else-not-is_others
returns-else-not-is_others c = record {
  busy = sym (c.in-Some.ensures ∙ ap (λ (f : FlightMap). busy_at (fin.get f c.args.name.now) c.args.want) c.flights.ensures);
  other = c.is_others.ensures.0 c.if-not-is_others.false;
  fresh = c.is_fresh.ensures.0 c.if-not-is_fresh.false;
}
