use Rattle.std.proofs.Common.{◌∙◌, ◌||◌, ap, sym, subst, Some}
use Rattle.std.specs.FinMap as fin
use Rattle.tier_flight.specs.Ends.{FlightMap, is_call}
use Rattle.tier_flight.specs.Joins.{MayJoin, joined}
use Rattle.tier_flight.specs.Indexes.{IsIndexed}
use Rattle.tier_flight.specs.Numbers.{HaveOneRead, IsNewBy, has_call, has_opid}
use Rattle.tier_flight.proofs.Indexed.{undone, unnamed, won}
use Rattle.tier_flight.proofs.NumbersLeft.{joined_call, joined_opid}
use Rattle.tier_flight.proofs.OneRead.{one_joined, one_put}
use Rattle.tier_flight.proofs.flights.Flights.add.Goals as goal

pub enter-requires : goal.enter-requires
enter-requires c =
    let m = c.self.inside.by_name in
    let new : IsNewBy has_opid m c.args.work =
    subst (λ (u : FlightMap). IsNewBy has_opid u c.args.work) (sym c.self.view_is)
    c.requires.operation in
    λ k is. unnamed has_opid c.self.inside.numbers.opids m c.self.invariant.0.opid k
    (new k (c.opid_of-opid.ensures k ∙ is))

pub invariant_of-self-in-Ok-join : goal.invariant_of-self-in-Ok-join
invariant_of-self-in-Ok-join c =
    let m = c.self.inside.by_name in
    let work = c.args.work in
    let stood = fin.get m c.args.name in
    let may : MayJoin stood work = subst (λ (u : FlightMap). MayJoin (fin.get u c.args.name) work)
    (sym c.self.view_is) c.requires.place in
    let ops : IsNewBy has_opid m work = subst (λ (u : FlightMap). IsNewBy has_opid u work)
    (sym c.self.view_is) c.requires.operation in
    let callers : IsNewBy has_call m work =
    subst (λ (u : FlightMap). IsNewBy has_call u work) (sym c.self.view_is) c.requires.caller in (
      record {
        opid = won has_opid c.self.inside.numbers.opids c.enter.new.self.opids m c.join.new.flights
            c.args.name (Some (joined stood work))
            c.in-Ok-join.ensures.added c.self.invariant.0.opid
            (λ k. is_call k c.opid_of-opid.result)
            c.in-Ok.ensures.opids
            (λ k. joined_opid stood work may k
            ∙ ap (λ b. has_opid stood k || b) (c.opid_of-opid.ensures k))
            (λ k is. ops k (c.opid_of-opid.ensures k ∙ is));
        call = won has_call c.self.inside.numbers.calls c.enter.new.self.calls m c.join.new.flights
            c.args.name (Some (joined stood work))
            c.in-Ok-join.ensures.added c.self.invariant.0.call
            (λ k. is_call k c.call_of-call.result)
            c.in-Ok.ensures.calls
            (λ k. joined_call stood work may k
            ∙ ap (λ b. has_call stood k || b) (c.call_of-call.ensures k))
            (λ k is. callers k (c.call_of-call.ensures k ∙ is));
      },
      one_put m c.join.new.flights c.args.name (Some (joined stood work)) c.in-Ok-join.ensures.added
          c.self.invariant.1
          (λ call. one_joined call stood work may c.requires.single
          (λ k is. callers k is c.args.name) (c.self.invariant.1 call c.args.name)),
    )

pub invariant_of-self-in-Err-join : goal.invariant_of-self-in-Err-join
invariant_of-self-in-Err-join c =
    let m = c.self.inside.by_name in
    let work = c.args.work in
    let ops : IsNewBy has_opid m work = subst (λ (u : FlightMap). IsNewBy has_opid u work)
    (sym c.self.view_is) c.requires.operation in
    let callers : IsNewBy has_call m work =
    subst (λ (u : FlightMap). IsNewBy has_call u work) (sym c.self.view_is) c.requires.caller in
    subst
    (λ (u : FlightMap).
    IsIndexed c.leave.new.self.opids c.leave.new.self.calls u × HaveOneRead u)
    (sym c.in-Err-join.ensures.refused) (
      record {
        opid = undone has_opid c.self.inside.numbers.opids c.enter.new.self.opids
            c.leave.new.self.opids m (λ k. is_call k c.opid_of-opid.result) c.args.name
            c.in-Ok.ensures.opids c.leave.ensures.opids c.self.invariant.0.opid
            (λ k is. ops k (c.opid_of-opid.ensures k ∙ is));
        call = undone has_call c.self.inside.numbers.calls c.enter.new.self.calls
            c.leave.new.self.calls m (λ k. is_call k c.call_of-call.result) c.args.name
            c.in-Ok.ensures.calls c.leave.ensures.calls c.self.invariant.0.call
            (λ k is. callers k (c.call_of-call.ensures k ∙ is));
      },
      c.self.invariant.1,
    )
