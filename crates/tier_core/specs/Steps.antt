-- What a step of a group is.
use Rattle.std.specs.Prelude.{Option}
use Rattle.tier_join.specs.Steps.{with_doubt}
use Rattle.tier_view.specs.Grows.{Wanted}
use Rattle.tier_view.specs.Laws.{Keeps}
use Rattle.tier_view.specs.Views.{GroupView, joined}

-- a step that may come in a doubt too, and asks this for a new call
abbrev pub IsStep : Option Wanted → (old new : GroupView) → Type 0
IsStep wanted old new = Keeps (with_doubt (joined old).doubt) wanted old new
