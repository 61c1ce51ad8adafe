use Rattle.std.proofs.Common.{arith, subst, sym, ◌+◌, ◌≤◌, vec_len, vec_capacity}
use Rattle.std.specs.List.{AllByRecursion}
use Rattle.tier_calls.specs.Turns.{AreByEpoch, HasGone}
use Rattle.tier_calls.proofs.Epochs.{all_gone, by_epoch_all}
use Rattle.tier_calls.proofs.table.CallTable.all_go.Goals as goal

pub invariant_of-self : goal.invariant_of-self
invariant_of-self c =
    let old : vec_len c.self.inside.flown + c.self.inside.room
    ≤ vec_capacity c.self.inside.flown = c.self.invariant.2 in (
      c.self.invariant.0,
      subst (AreByEpoch c.self.inside.first) (sym c.go_all.ensures.gone)
          (by_epoch_all c.args.now c.self.inside.first c.self.inside.flown.items
          c.self.invariant.1),
      omega (arith, old, c.go_all.ensures.count, c.go_all.ensures.room),
      c.self.invariant.3,
    )

pub returns-clause-gone : goal.returns-clause-gone
returns-clause-gone c =
    subst (AllByRecursion HasGone) (sym c.go_all.ensures.gone)
    (all_gone c.args.now c.self.inside.flown.items)
