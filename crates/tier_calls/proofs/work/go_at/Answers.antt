use Rattle.std.proofs.Common.{ap, arith, rules, subst, sym, ◌∙◌, ◌≡◌, ◌+◌, ◌-◌, ◌<◌, ◌≤◌, length, set}
use Rattle.tier_calls.specs.Turns.{HasNoPlace}
use Rattle.tier_calls.proofs.Epochs.{goes_nowhere, goes_read, within}
use Rattle.tier_calls.proofs.work.go_at.Goals as goal

pub overflow_sub-len : goal.overflow_sub-len
overflow_sub-len c =
    let fs = c.args.flown.now.items in
    let count : c.len.result ≡ length fs = search (rules, c.len.ensures) in
    subst (λ n. c.args.earlier ≤ n) (sym count) (within c.args.earlier fs c.requires)

pub returns-in-Some-clause-gone : goal.returns-in-Some-clause-gone
returns-in-Some-clause-gone c =
    let fs = c.args.flown.now.items in
    let count : c.len.result ≡ length fs = search (rules, c.len.ensures) in
    let below : c.in-Some.place < length fs - c.args.earlier =
    subst (λ n. c.in-Some.place < n - c.args.earlier) count c.in-Some.ensures.1 in
    ap (set fs (c.args.earlier + c.in-Some.place)) c.go.ensures
    ∙ goes_read c.args.now c.args.earlier c.in-Some.place c.args.opid c.index_mut.result.now fs
    c.in-Some.ensures.0 (omega (arith, below)) c.index_mut.ensures.value c.requires

pub returns-in_default-clause-gone : goal.returns-in_default-clause-gone
returns-in_default-clause-gone c =
    let fs = c.args.flown.now.items in
    let count : c.len.result ≡ length fs = search (rules, c.len.ensures) in
    goes_nowhere c.args.now c.args.earlier c.args.opid fs
    (subst (λ n. HasNoPlace c.args.opid (n - c.args.earlier)) count c.in_default.ensures)
    c.requires
