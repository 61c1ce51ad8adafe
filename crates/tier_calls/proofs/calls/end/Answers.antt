use Rattle.std.proofs.Common.{true, ◌≡◌, ◌<◌, length, rules, subst}
use Rattle.tier_calls.specs.Turns.{HasNoPlace}
use Rattle.tier_calls.proofs.Found.{changed_nowhere, changed_read}
use Rattle.tier_calls.proofs.Going.{going_ended}
use Rattle.tier_calls.proofs.calls.end.Goals as goal

pub returns-in-Some-clause-ended : goal.returns-in-Some-clause-ended
returns-in-Some-clause-ended c =
    let es = c.args.entries.now.items in
    let count : c.len.result ≡ length es = search (rules, c.len.ensures) in
    changed_read (λ e. e.number) (λ e. record e { ended = true }) c.args.number es
    c.in-Some.place c.index_mut.result.now c.in-Some.ensures.0
    (subst (λ n. c.in-Some.place < n) count c.in-Some.ensures.1)
    c.index_mut.ensures.value c.requires

pub returns-in-None-clause-ended : goal.returns-in-None-clause-ended
returns-in-None-clause-ended c =
    let es = c.args.entries.now.items in
    let count : c.len.result ≡ length es = search (rules, c.len.ensures) in
    changed_nowhere (λ e. e.number) (λ e. record e { ended = true }) c.args.number es
    (subst (HasNoPlace c.args.number) count c.in-None.ensures) c.requires

pub returns-in-Some-clause-going : goal.returns-in-Some-clause-going
returns-in-Some-clause-going c =
    let es = c.args.entries.now.items in
    let count : c.len.result ≡ length es = search (rules, c.len.ensures) in
    going_ended es c.in-Some.place c.index.result.now c.index_mut.result.now c.is_going-was_going.result
    (subst (λ n. c.in-Some.place < n) count c.in-Some.ensures.1)
    c.index.ensures c.is_going-was_going.ensures
