use Rattle.std.proofs.Common.{◌∙◌, sym, ap, subst, IsSome}
use Rattle.std.specs.FinMap as fin
use Rattle.tier_flight.specs.Ends.{FlightMap, left_at, put_left}
use Rattle.tier_flight.proofs.Swaps.{has_put, left_twice}
use Rattle.tier_flight.proofs.leaving.leave_name.Goals as goal

pub put_left-requires : goal.put_left-requires
put_left-requires c =
    let P : FlightMap → Type 0 = λ m. IsSome (fin.get m c.args.name.now) in
    subst P (sym c.in-Ok.ensures.put)
    (has_put c.args.flights.now c.args.name.now c.in_between.result)

pub returns-in-Ok : goal.returns-in-Ok
returns-in-Ok c =
    let old = c.args.flights.now in
    let name = c.args.name.now in
    c.put_left.ensures
    ∙ ap (λ m. put_left m name c.left_of.result) c.in-Ok.ensures.put
    ∙ left_twice old name c.in_between.result c.left_of.result
    ∙ ap (put_left old name)
    (c.left_of.ensures ∙ sym (ap (left_at c.args.call) c.in-Ok.ensures.before))
