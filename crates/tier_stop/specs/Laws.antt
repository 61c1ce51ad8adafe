-- What is proved of starts.
use Rattle.std.specs.Prelude.{◌≡◌, ◌↔◌}
use Rattle.tier_stop.specs.Needs.{start_needed}
use Rattle.tier_stop.specs.declared.choosing.StartStep.TheVariants as need
use Rattle.tier_view.specs.Views.{GroupView}
use Rattle.tier_view.specs.Whole.{IsReady}

-- no step is needed exactly where the group is ready
abbrev pub ReadyGroupsNeedNothing : Type 0
ReadyGroupsNeedNothing =
    (v : GroupView) → (start_needed v ≡ need.Nothing) ↔ IsReady v.stores v.standing
