use Rattle.std.proofs.Common.{ap, refl, subst, sym, true, ◌∙◌}
use Rattle.tier_calls.specs.Going.{going_in}
use Rattle.tier_calls.specs.Turns.{AreInTurn}
use Rattle.tier_calls.proofs.Found.{turn_changed}
use Rattle.tier_calls.proofs.Going.{going_adopted}
use Rattle.tier_calls.proofs.table.CallTable.adopt.Goals as goal

pub invariant_of-self : goal.invariant_of-self
invariant_of-self c = (
  subst (AreInTurn (λ e. e.number) 1) (sym c.adopt.ensures.adopted)
      (turn_changed (λ e. e.number) (λ e. record e { adopted = true }) c.args.number (λ e. refl)
      c.self.inside.entries.items 1 c.self.invariant.0),
  c.self.invariant.1,
  c.self.invariant.2,
  c.self.invariant.3
      ∙ sym (ap going_in c.adopt.ensures.adopted
      ∙ going_adopted c.args.number c.self.inside.entries.items),
)
