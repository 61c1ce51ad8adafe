use Rattle.std.proofs.Common.{None, subst}
use Rattle.tier_view.specs.Views.{GroupView}
use Rattle.tier_view.specs.Whole.{IsWhole}
use Rattle.tier_core.specs.Parts.{group_of, stores_of}
use Rattle.tier_core.specs.Steps.{IsStep}
use Rattle.tier_core.proofs.Resting.{nothing_is_step}
use Rattle.tier_core.proofs.group.Group.rest.Goals as goal

pub returns-clause-whole : goal.returns-clause-whole
returns-clause-whole g c = subst (λ (v : GroupView). IsWhole v) c.self.view_is c.self.invariant.whole

pub returns-clause-step : goal.returns-clause-step
returns-clause-step g c =
    subst (λ (v : GroupView). IsStep None v v) c.self.view_is (nothing_is_step _ c.self.invariant.whole)
