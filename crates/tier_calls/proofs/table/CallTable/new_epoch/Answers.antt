use Rattle.std.proofs.Common.{◌≡◌, length, rules, subst, sym}
use Rattle.std.specs.List.{AllByRecursion}
use Rattle.tier_calls.specs.Tables.{TableView}
use Rattle.tier_calls.specs.Turns.{AreByEpoch, HasGone}
use Rattle.tier_calls.proofs.Epochs.{by_epoch_new}
use Rattle.tier_calls.proofs.table.CallTable.new_epoch.Goals as goal

pub invariant_of-self : goal.invariant_of-self
invariant_of-self c =
    let fs = c.self.inside.flown.items in
    let count : c.len.result ≡ length fs = search (rules, c.len.ensures) in (
      c.self.invariant.0,
      subst (λ n. AreByEpoch n fs) (sym count)
          (by_epoch_new fs (subst (λ (t : TableView). AllByRecursion HasGone t.calls.flown)
          (sym c.self.view_is) c.requires)),
      c.self.invariant.2,
      c.self.invariant.3,
    )
