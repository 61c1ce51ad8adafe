use Rattle.std.proofs.Common.{ap, subst, sym, ◌∙◌, ◌==◌, filter, not}
use Rattle.tier_traffic.specs.Numbered.{IsShelf, NumberedView, held_in}
use Rattle.tier_traffic.proofs.Shelves.{none_there, out_seen, out_shelf}
use Rattle.tier_traffic.proofs.numbered.Numbered.remove.Goals as goal

pub invariant_of-self : goal.invariant_of-self
invariant_of-self g c =
    let ready = c.self.inside.ready in
    let next = c.self.inside.next in (
      subst (IsShelf ready next) (sym c.take_place.ensures)
          (out_shelf ready next c.args.number c.self.inside.inner.entries c.if-number-self.true
          c.self.invariant.0),
      c.self.invariant.1,
    )

pub returns-then-number-self : goal.returns-then-number-self
returns-then-number-self g c =
    let n = c.args.number in
    let ready = c.self.inside.ready in
    let next = c.self.inside.next in
    ap (λ held. record { held = held; next = next; ready = ready })
    (ap held_in c.take_place.ensures
    ∙ out_seen ready next n c.self.inside.inner.entries c.if-number-self.true
    c.self.invariant.0)
    ∙ ap (λ (v : NumberedView g.row.V.Denot). record v {
      held = filter (λ e. not (e.0 == n)) v.held;
    }) c.self.view_is

pub returns-else-number-self : goal.returns-else-number-self
returns-else-number-self g c =
    let n = c.args.number in
    let ready = c.self.inside.ready in
    let next = c.self.inside.next in
    sym c.self.view_is
    ∙ ap (λ held. record { held = held; next = next; ready = ready })
    (sym (none_there ready next n c.self.inside.inner.entries c.if-number-self.false
    c.self.invariant.0))
    ∙ ap (λ (v : NumberedView g.row.V.Denot). record v {
      held = filter (λ e. not (e.0 == n)) v.held;
    }) c.self.view_is
