use Rattle.std.proofs.Common.{rules, Result, Ok, Err}
use Rattle.std.specs.Prelude.{OnErr}
use Rattle.tier_flight.proofs.Joined.{as_before, joined_in}
use Rattle.tier_flight.proofs.joining.join.Goals as goal

-- what holds, holds on an error
on_err : {X E P : Type 0} (r : Result X E) → P → OnErr r P
on_err (Ok x) p = search rules
on_err (Err e) p = p

pub returns-in_ok-join_standing-in-Ok-clause-added
    : goal.returns-in_ok-join_standing-in-Ok-clause-added
returns-in_ok-join_standing-in-Ok-clause-added c =
    joined_in c.args.flights.now c.swap.new.self c.join_standing.new.flights c.args.name
    c.in_between.result c.in-Ok.standing
    c.in-Ok.ensures.put c.in-Ok.ensures.before c.args.work c.in_ok-join_standing-in-Ok.ensures.added

pub returns-in_err-join_standing-in-Ok-clause-refused
    : goal.returns-in_err-join_standing-in-Ok-clause-refused
returns-in_err-join_standing-in-Ok-clause-refused c = on_err c.from_residual.result (
    as_before c.args.flights.now c.swap.new.self c.join_standing.new.flights c.args.name
    c.in_between.result c.in-Ok.standing
    c.in-Ok.ensures.put c.in-Ok.ensures.before c.in_err-join_standing-in-Ok.ensures.refused)
