-- Which step of a start is needed.
use Rattle.std.specs.Prelude.{Bool, true, false, Option, Some, None, option_map}
use Rattle.obj_model.specs.declared.change.Pool.{Pool}
use Rattle.obj_model.specs.declared.change.Pool.TheVariants.{Cache, Base}
use Rattle.tier_protocol.specs.Tiers.{Phase}
use Rattle.tier_stop.specs.declared.choosing.StartStep.{StartStep}
use Rattle.tier_stop.specs.declared.choosing.StartStep.TheVariants as need
use Rattle.tier_view.specs.Starts.{pool_in}
use Rattle.tier_view.specs.Stores.{Stores}
use Rattle.tier_view.specs.Views.{GroupView}

-- whether this pool is the one in doubt
abbrev pub is_of : Pool → (doubt : Option Pool) → Bool
is_of pool None = false
is_of Cache (Some Cache) = true
is_of Cache (Some Base) = false
is_of Base (Some Cache) = false
is_of Base (Some Base) = true

-- A store has to be opened where it is not live, or its pool was stopped since it was opened last,
-- or a commit of it is in doubt.
abbrev pub is_shut : (live stopped in_doubt : Bool) → Bool
is_shut false stopped in_doubt = true
is_shut true true in_doubt = true
is_shut true false in_doubt = in_doubt

abbrev pub must_open : Pool → Stores → Bool
must_open Cache x =
    is_shut x.cache.live x.cache_stopped (is_of Cache (option_map pool_in x.pending))
must_open Base x = is_shut x.base.live x.base_stopped (is_of Base (option_map pool_in x.pending))

-- The first of these that is needed: the cache is opened; the base is opened; the epoch of a cache
-- that is down is raised; a Fence of it is sent, where the base has not told it since the last stop
-- of either.
abbrev pub step_by : (cache_shut base_shut : Bool) → Phase → (fenced : Bool) → StartStep
step_by true base_shut phase fenced = need.OpenCache
step_by false true phase fenced = need.OpenBase
step_by false false Phase.Down fenced = need.Raise
step_by false false Phase.Raised fenced = need.Fence
step_by false false Phase.Up false = need.Fence
step_by false false Phase.Up true = need.Nothing

abbrev pub start_needed : GroupView → StartStep
start_needed v =
    step_by (must_open Cache v.stores) (must_open Base v.stores) v.standing.phase v.standing.fenced
