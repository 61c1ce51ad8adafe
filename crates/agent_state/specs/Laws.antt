-- What follows for the agent, in plain words.
use Rattle.std.specs.Prelude.{◌≡◌, ◌≢◌, ◌≤◌, ◌*◌, ◌/◌, Bool, false, List, All}
use Rattle.obj_model.specs.declared.tier.PoolValues.{PoolValues}
use Rattle.agent_state.specs.declared.totals.Totals.{Totals}
use Rattle.agent_state.specs.declared.totals.Share.{Share}
use Rattle.agent_state.specs.declared.modes.Modes.{Modes}
use Rattle.agent_state.specs.declared.modes.FlushMode.{FlushMode}
use Rattle.agent_state.specs.declared.modes.FlushMode.TheVariants as flush
use Rattle.agent_state.specs.declared.modes.EvictMode.{EvictMode}
use Rattle.agent_state.specs.declared.modes.EvictMode.TheVariants as evict
use Rattle.agent_state.specs.Modes.{modes_of}
use Rattle.agent_state.specs.Sums.{Weight, totals_of}

-- without targets nothing is evicted, whatever the cache holds
abbrev pub NoTargetNoEviction : PoolValues → Share → Type 0
NoTargetNoEviction v s =
    s.objects ≡ 0 → s.bytes ≡ 0 →
    (t : Totals) (old : Modes) →
    ((modes_of t v s old).evict ≡ evict.Idle) × ((modes_of t v s old).effort ≡ 0)

-- where each record of a list is clean, nothing is flushed
abbrev pub CleanIsNotFlushed : PoolValues → Share → Type 0
CleanIsNotFlushed v s =
    (records : List Weight) (old : Modes) → All (λ (w : Weight). w.dirty ≡ false) records →
    (modes_of (totals_of records) v s old).flush ≡ flush.Idle

-- what makes a resting agent flush keeps a working one at it: there is no flicker round a threshold
abbrev pub FlushingGoesOn : PoolValues → Share → Type 0
FlushingGoesOn v s =
    (t : Totals) (rested worked : Modes) → rested.flush ≡ flush.Idle →
    (modes_of t v s rested).flush ≢ flush.Idle → (modes_of t v s worked).flush ≢ flush.Idle

-- what makes a resting agent evict keeps a working one at it
abbrev pub EvictingGoesOn : PoolValues → Share → Type 0
EvictingGoesOn v s =
    (t : Totals) (rested worked : Modes) → rested.evict ≡ evict.Idle →
    (modes_of t v s rested).evict ≢ evict.Idle → (modes_of t v s worked).evict ≢ evict.Idle

-- where some records are evicted, the effort is a tenth to ten tenths
abbrev pub EffortIsInTenths : PoolValues → Share → Type 0
EffortIsInTenths v s =
    (t : Totals) (old : Modes) → (modes_of t v s old).evict ≡ evict.Some →
    let effort = (modes_of t v s old).effort in
    (100000 ≤ effort) × (effort ≤ 1000000) × (effort / 100000 * 100000 ≡ effort)
