use Rattle.std.proofs.Common.{arith, subst, sym, ◌-◌, ◌<◌, length}
use Rattle.tier_calls.specs.Turns.{IsTheOne}
use Rattle.tier_calls.proofs.Epochs.{within}
use Rattle.tier_calls.proofs.Standing.{none_at, one_read}
use Rattle.tier_calls.proofs.work.standing_at.Goals as goal

pub overflow_sub-flown : goal.overflow_sub-flown
overflow_sub-flown c = within c.args.earlier c.args.flown.now c.requires

pub returns-in-Some : goal.returns-in-Some
returns-in-Some c =
    let fs = c.args.flown.now in
    let below : c.in-Some.place < length fs - c.args.earlier = c.in-Some.ensures.1 in
    subst (IsTheOne c.args.opid fs) (sym c.standing.ensures)
    (one_read fs c.args.earlier c.in-Some.place c.args.opid c.index-flown-first.result
    c.in-Some.ensures.0 (omega (arith, below)) c.index-flown-first.is c.requires)

pub returns-in-None : goal.returns-in-None
returns-in-None c = none_at c.args.flown.now c.args.earlier c.args.opid c.in-None.ensures c.requires
