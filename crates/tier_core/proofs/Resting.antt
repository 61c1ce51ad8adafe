-- A step that changes nothing.
use Rattle.std.proofs.Common.{None, refl}
use Rattle.tier_join.specs.Steps.{with_doubt}
use Rattle.tier_view.proofs.Answering.{leaving_is_quiet}
use Rattle.tier_view.proofs.Resting.{rests_promises}
use Rattle.tier_view.proofs.StartingRests.{rests_keeps}
use Rattle.tier_view.specs.Answers.{KeepsQuietly}
use Rattle.tier_view.specs.Views.{GroupView, joined}
use Rattle.tier_view.specs.Whole.{IsWhole}
use Rattle.tier_core.specs.Steps.{IsStep}

-- to leave a group as it is is a step
pub nothing_is_step : (v : GroupView) → IsWhole v → IsStep None v v
nothing_is_step v h =
    rests_keeps v h v.stores.base_stopped v.traffic v.standing (with_doubt (joined v).doubt) (rests_promises (joined v)) (λ start b z k. k) refl refl h.flights h.traffic
    (record { cache = h.stops.cache; base = h.stops.base })

pub nothing_quietly : (v : GroupView) → IsWhole v → KeepsQuietly v v
nothing_quietly v h =
    leaving_is_quiet v v (nothing_is_step v h)
    (record { stores = refl; log = refl; calls = refl; epoch = refl; opids = refl })
