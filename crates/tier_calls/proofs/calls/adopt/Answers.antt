use Rattle.std.proofs.Common.{true, ◌≡◌, ◌<◌, length, rules, subst}
use Rattle.tier_calls.specs.Turns.{HasNoPlace}
use Rattle.tier_calls.proofs.Found.{changed_nowhere, changed_read}
use Rattle.tier_calls.proofs.calls.adopt.Goals as goal

pub returns-in-Some-clause-adopted : goal.returns-in-Some-clause-adopted
returns-in-Some-clause-adopted c =
    let es = c.args.entries.now.items in
    let count : c.len.result ≡ length es = search (rules, c.len.ensures) in
    changed_read (λ e. e.number) (λ e. record e { adopted = true }) c.args.number es
    c.in-Some.place c.index_mut.result.now c.in-Some.ensures.0
    (subst (λ n. c.in-Some.place < n) count c.in-Some.ensures.1)
    c.index_mut.ensures.value c.requires

pub returns-in_default-clause-adopted : goal.returns-in_default-clause-adopted
returns-in_default-clause-adopted c =
    let es = c.args.entries.now.items in
    let count : c.len.result ≡ length es = search (rules, c.len.ensures) in
    changed_nowhere (λ e. e.number) (λ e. record e { adopted = true }) c.args.number es
    (subst (HasNoPlace c.args.number) count c.in_default.ensures) c.requires
