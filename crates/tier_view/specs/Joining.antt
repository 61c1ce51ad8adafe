-- A call's entry and the step behind it, as one step.
use Rattle.std.specs.Prelude.{◌≡◌, ℕ, true, Option, Some, None}
use Rattle.obj_ops.specs.Stores.{Store}
use Rattle.tier_chron.specs.declared.asked.Asked.{Asked}
use Rattle.tier_view.specs.Grows.{Grows}
use Rattle.tier_view.specs.Steps.{opened_call}
use Rattle.tier_view.specs.Tables.{goes_without}
use Rattle.tier_view.specs.Views.{GroupView}
use Rattle.tier_view.specs.Whole.{IsWhole}

-- the cache is at the same epoch
abbrev pub SameEpoch : (old new : GroupView) → Type 0
SameEpoch old new = new.standing.cache_epoch ≡ old.standing.cache_epoch

-- A call is entered, and a step behind it that enters none is made: that is one step, which enters
-- the call. A new call has the epoch of its step's end, so the cache's epoch is not raised in the
-- second step. Work that comes there may be the new call's, which was not over before: it was not.
abbrev pub OpeningLeadsStep : Type 0
OpeningLeadsStep =
    (other : Store → Store) (v w : GroupView) (line : Option ℕ) (asked : Asked) → IsWhole v
    → (line ≡ None → goes_without asked ≡ true) → SameEpoch v w
    → Grows other None (opened_call line asked v) w
    → Grows other (Some (record { line = line; asked = asked })) v w
