-- The running sum is that of the history with one more act.
use Rattle.std.proofs.Common.{arith, sym, subst, List}
use Rattle.tier_chron.specs.Steps.Histories.{AreClosed}
use Rattle.tier_chron.specs.declared.entries.Act.{Act}
use Rattle.tier_chron.proofs.Closing.{closed_act}
use Rattle.tier_chron.proofs.Openings.{held_bytes}
use Rattle.tier_chron.proofs.history.History.push_act.Goals as goal

pub invariant_of-self : goal.invariant_of-self
invariant_of-self c =
    let old = c.self.inside in
    let sum = held_bytes old.opening.entries c.open.new.opening.entries old.acts.items c.push_reserved.new.self.items old.answers.items
    c.args.first c.args.act c.open.ensures.opened c.push_reserved.ensures.items in
    let kept = c.self.invariant in (
      omega (arith, sum, kept.0, c.open.ensures.weight, c.act_weight.ensures, c.saturating_add-weight.ensures, c.saturating_add-self-inside.ensures),
      omega (arith, kept.1, c.open.ensures.room),
      omega (arith, kept.2, c.push_reserved.ensures.len, c.push_reserved.ensures.capacity),
      omega (arith, kept.3),
      omega (arith, kept.4, c.close.ensures.room),
      subst (λ (acts : List Act). AreClosed c.close.new.closed.keys acts old.answers.items)
          (sym c.push_reserved.ensures.items)
          (closed_act old.closed.keys c.close.new.closed.keys old.acts.items old.answers.items
          c.args.act kept.5 c.close.ensures.closed),
    )
