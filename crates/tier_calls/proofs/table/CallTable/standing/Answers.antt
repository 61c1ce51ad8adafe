use Rattle.std.proofs.Common.{List, ap, subst, sym, ◌∙◌}
use Rattle.std.specs.Option.{option_copied}
use Rattle.tier_view.specs.declared.parts.Flown.{Flown}
use Rattle.tier_calls.specs.Tables.{TableView}
use Rattle.tier_calls.specs.Turns.{AreByEpoch, IsTheOne}
use Rattle.tier_calls.proofs.table.CallTable.standing.Goals as goal

pub standing_at-requires : goal.standing_at-requires
standing_at-requires c = subst (AreByEpoch c.self.inside.first) (sym c.as_slice.ensures.value) c.self.invariant.1

pub returns : goal.returns
returns c =
    subst (λ (fs : List Flown). IsTheOne c.args.opid fs (option_copied c.standing_at.result))
    (c.as_slice.ensures.value ∙ ap (λ (t : TableView). t.calls.flown) c.self.view_is) c.standing_at.ensures
