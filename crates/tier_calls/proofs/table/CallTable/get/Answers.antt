use Rattle.std.proofs.Common.{ap, rules, subst, sym, ◌∙◌, ◌≡◌, ◌<◌, length}
use Rattle.tier_view.specs.Calls.{entry_of}
use Rattle.tier_calls.specs.Tables.{TableView}
use Rattle.tier_calls.specs.Turns.{HasNoPlace}
use Rattle.tier_calls.proofs.Found.{found_nowhere, found_read}
use Rattle.tier_calls.proofs.table.CallTable.get.Goals as goal

pub returns-in-Some : goal.returns-in-Some
returns-in-Some c =
    let es = c.self.inside.entries.items in
    let count : c.len.result ≡ length es = search (rules, c.len.ensures) in
    found_read (λ e. e.number) es c.in-Some.place c.args.number c.index.result.now
    c.in-Some.ensures.0 (subst (λ n. c.in-Some.place < n) count c.in-Some.ensures.1)
    c.index.ensures c.self.invariant.0
    ∙ ap (λ (t : TableView). entry_of t.calls.entries c.args.number) c.self.view_is

pub returns-in-None : goal.returns-in-None
returns-in-None c =
    let es = c.self.inside.entries.items in
    let count : c.len.result ≡ length es = search (rules, c.len.ensures) in
    sym (found_nowhere (λ e. e.number) es c.args.number
    (subst (HasNoPlace c.args.number) count c.in-None.ensures) c.self.invariant.0)
    ∙ ap (λ (t : TableView). entry_of t.calls.entries c.args.number) c.self.view_is
