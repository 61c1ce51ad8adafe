use Rattle.std.proofs.Common.{◌∙◌, ap, sym, subst, cond, None}
use Rattle.std.specs.FinMap as fin
use Rattle.tier_flight.specs.Changes.{IsDroppedIn}
use Rattle.tier_flight.specs.Ends.{FlightMap, left_at}
use Rattle.tier_flight.specs.Indexes.{ends_opid, name_in}
use Rattle.tier_flight.specs.Numbers.{has_call, has_opid}
use Rattle.tier_flight.proofs.CallEnds.{call_out, dropped, left_call_in, left_opid_in, waits}
use Rattle.tier_flight.proofs.Indexed.{lost}
use Rattle.tier_flight.proofs.OneRead.{one_left, one_put}
use Rattle.tier_flight.proofs.flights.Flights.drop_call.Goals as goal

pub invariant_of-self : goal.invariant_of-self
invariant_of-self c =
    let m = c.self.inside.by_name in
    let call = c.args.call in
    let name = c.in-Some.name in
    let opids = c.self.inside.numbers.opids in
    let calls = c.self.inside.numbers.calls in
    let work = fin.get m name in (
      record {
        opid = lost has_opid opids c.leave_ended.new.opids m c.leave_name.new.flights name
            (left_at call work) c.leave_name.ensures c.self.invariant.0.opid
            (λ k. c.leave_ended.ensures k
            ∙ ap (λ w. cond (ends_opid call w k) None (name_in opids k)) c.get.ensures)
            (left_opid_in call work);
        call = lost has_call calls c.forget.new.self m c.leave_name.new.flights name
            (left_at call work) c.leave_name.ensures c.self.invariant.0.call
            (λ k. c.in-Some.ensures.forgotten k ∙ ap (λ b. cond b None (name_in calls k))
            (call_out call work k
            (waits calls m c.leave_name.new.flights call name c.self.invariant.0.call
            (sym c.in-Some.ensures.name) c.leave_name.ensures)))
            (left_call_in call work);
      },
      one_put m c.leave_name.new.flights name (left_at call work) c.leave_name.ensures
          c.self.invariant.1 (λ k. one_left call k work (c.self.invariant.1 k name)),
    )

pub returns-in-Some : goal.returns-in-Some
returns-in-Some c =
    let m = c.self.inside.by_name in
    subst (λ (u : FlightMap). IsDroppedIn c.args.call u c.leave_name.new.flights) c.self.view_is
    (dropped c.self.inside.numbers.calls m c.leave_name.new.flights c.args.call c.in-Some.name
    c.self.invariant.0.call
    (sym c.in-Some.ensures.name) c.leave_name.ensures)
