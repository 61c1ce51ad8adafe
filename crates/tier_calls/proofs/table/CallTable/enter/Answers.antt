use Rattle.std.proofs.Common.{arith, refl, rules, subst, sym, ◌≡◌, length}
use Rattle.tier_calls.specs.Turns.{AreInTurn}
use Rattle.tier_calls.proofs.Found.{turn_push}
use Rattle.tier_calls.proofs.Going.{more}
use Rattle.tier_calls.proofs.table.CallTable.enter.Goals as goal

pub invariant_of-self-2 : goal.invariant_of-self-2
invariant_of-self-2 c =
    let es = c.self.inside.entries.items in
    let count : c.len.result ≡ length es = search (rules, c.len.ensures) in (
      subst (AreInTurn (λ e. e.number) 1) (sym c.in_ok-push.ensures.items)
          (turn_push (λ e. e.number) es _ 1 (omega (arith, count)) c.self.invariant.0),
      c.self.invariant.1,
      c.self.invariant.2,
      more es _ c.push.new.self.items c.self.inside.going c.is_some.result c.self.invariant.3
          refl c.is_some.ensures c.in_ok-push.ensures.items,
    )
