use Rattle.std.proofs.Common.{arith, subst, sym, ◌+◌, ◌≤◌, vec_len, vec_capacity}
use Rattle.tier_calls.specs.Turns.{AreByEpoch}
use Rattle.tier_calls.proofs.Epochs.{by_epoch_in}
use Rattle.tier_calls.proofs.table.CallTable.work_goes.Goals as goal

pub invariant_of-self : goal.invariant_of-self
invariant_of-self c =
    let old : vec_len c.self.inside.flown + c.self.inside.room
    ≤ vec_capacity c.self.inside.flown = c.self.invariant.2 in (
      c.self.invariant.0,
      subst (AreByEpoch c.self.inside.first) (sym c.go_at.ensures.gone)
          (by_epoch_in c.args.now c.args.opid c.self.inside.first c.self.inside.flown.items
          c.self.invariant.1),
      omega (arith, old, c.go_at.ensures.count, c.go_at.ensures.room),
      c.self.invariant.3,
    )
