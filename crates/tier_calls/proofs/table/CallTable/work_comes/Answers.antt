use Rattle.std.proofs.Common.{arith, subst, sym, ◌≡◌, ◌+◌, ◌≤◌, length, vec_len, vec_capacity}
use Rattle.tier_calls.specs.Tables.{TableView}
use Rattle.tier_calls.specs.Turns.{AreByEpoch}
use Rattle.tier_calls.proofs.Epochs.{by_epoch_push}
use Rattle.tier_calls.proofs.table.CallTable.work_comes.Goals as goal

pub invariant_of-self : goal.invariant_of-self
invariant_of-self c =
    let next : c.args.flown.opid + c.self.inside.first ≡ length c.self.inside.flown.items + 1 =
    subst (λ (t : TableView). c.args.flown.opid + t.earlier ≡ length t.calls.flown + 1)
    (sym c.self.view_is) c.requires.next in
    let room : 1 ≤ c.self.inside.room =
    subst (λ (t : TableView). 1 ≤ t.spare) (sym c.self.view_is) c.requires.room in
    let old : vec_len c.self.inside.flown + c.self.inside.room
    ≤ vec_capacity c.self.inside.flown = c.self.invariant.2 in (
      c.self.invariant.0,
      subst (AreByEpoch c.self.inside.first) (sym c.push_reserved.ensures.items)
          (by_epoch_push c.self.inside.first c.self.inside.flown.items c.args.flown next
          c.self.invariant.1),
      omega (arith, old, room, c.push_reserved.ensures.len, c.push_reserved.ensures.capacity),
      c.self.invariant.3,
    )
