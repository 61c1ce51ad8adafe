use Rattle.std.proofs.Common.{refl, subst, sym, true}
use Rattle.tier_calls.specs.Going.{going_in}
use Rattle.tier_calls.specs.Turns.{AreInTurn}
use Rattle.tier_calls.proofs.Found.{turn_changed}
use Rattle.tier_calls.proofs.Going.{fewer}
use Rattle.tier_calls.proofs.table.CallTable.end.Goals as goal

pub invariant_of-self : goal.invariant_of-self
invariant_of-self c = (
  subst (AreInTurn (λ e. e.number) 1) (sym c.end.ensures.ended)
      (turn_changed (λ e. e.number) (λ e. record e { ended = true }) c.args.number (λ e. refl)
      c.self.inside.entries.items 1 c.self.invariant.0),
  c.self.invariant.1,
  c.self.invariant.2,
  fewer c.end.result c.self.inside.going (going_in c.self.inside.entries.items) _
      c.self.invariant.3 c.end.ensures.going,
)
