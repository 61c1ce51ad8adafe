use Rattle.std.proofs.Common.{ap, arith, refl, subst, sym, ◌∙◌, true, false}
use Rattle.tier_traffic.specs.Numbered.{IsShelf, NumberedView, held_in}
use Rattle.tier_traffic.proofs.Shelves.{place_seen, place_shelf}
use Rattle.tier_traffic.proofs.numbered.Numbered.reserve.Goals as goal

pub invariant_of-self-2 : goal.invariant_of-self-2
invariant_of-self-2 g c =
    let next = c.self.inside.next in
    let es = c.self.inside.inner.entries in
    let free : IsShelf false next es =
    subst (λ b. IsShelf b next es) c.if-self.false c.self.invariant.0 in (
      subst (IsShelf true next) (sym c.in_ok-insert.ensures.entries)
          (place_shelf next _ es refl free),
      omega (arith, c.if-self-ge18446744073709551615.false),
    )

pub returns-clause-ok : goal.returns-clause-ok
returns-clause-ok g c =
    let next = c.self.inside.next in
    let es = c.self.inside.inner.entries in
    let free : IsShelf false next es =
    subst (λ b. IsShelf b next es) c.if-self.false c.self.invariant.0 in
    ap (λ held. record { held = held; next = next; ready = true })
    (ap held_in c.in_ok-insert.ensures.entries ∙ place_seen next _ es refl free)
    ∙ ap (λ (v : NumberedView g.row.V.Denot). record v { ready = true }) c.self.view_is
