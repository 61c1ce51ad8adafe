-- What a start comes to.
use Rattle.std.specs.Prelude.{◌≡◌, ◌<◌, ℕ, Option, Result, Ok, Err}
use Rattle.tier_core.specs.Opens.{OpensBase, OpensCache}
use Rattle.tier_core.specs.Raises.{Raises, next_epoch}
use Rattle.tier_core.specs.declared.opening.OpenFault.{OpenFault}
use Rattle.tier_runs.specs.Runs.{IsOneStep}
use Rattle.tier_stop.specs.Needs.{start_needed}
use Rattle.tier_stop.specs.declared.choosing.StartStep.{StartStep}
use Rattle.tier_stop.specs.declared.choosing.StartStep.TheVariants as need
use Rattle.tier_stop.specs.declared.starting.StartFault.TheVariants as fault
use Rattle.tier_stop.specs.declared.starting.Started.{Started}
use Rattle.tier_stop.specs.declared.starting.Started.TheVariants.{Ready, Going, Sent, Failed, NoMemory}
use Rattle.tier_view.specs.Starts.{fence_sent}
use Rattle.tier_view.specs.Views.{GroupView}
use Rattle.tier_view.specs.Whole.{IsReady}

-- ---- what was made

-- the cache was opened, and the group is ready then or not; or why it was not opened
abbrev pub CacheOpens : (old new : GroupView) → Started → Type 0
CacheOpens old new Ready = OpensCache old new (Ok tt)
CacheOpens old new Going = OpensCache old new (Ok tt)
CacheOpens old new (Failed (fault.Cache f)) = OpensCache old new (Err f)
CacheOpens old new other = ⊥

-- the same of the base
abbrev pub BaseOpens : (old new : GroupView) → Started → Type 0
BaseOpens old new Ready = OpensBase old new (Ok tt)
BaseOpens old new Going = OpensBase old new (Ok tt)
BaseOpens old new (Failed (fault.Base f)) = OpensBase old new (Err f)
BaseOpens old new other = ⊥

-- the epoch above both was committed, or why it was not
abbrev pub EpochRises : (old new : GroupView) → Started → Type 0
EpochRises old new Going = Raises old new (Ok (next_epoch old))
EpochRises old new (Failed (fault.Raise f)) = Raises old new (Err f)
EpochRises old new other = ⊥

-- a Fence was sent, under the next number, and keeps this line and this call; or nothing was done
abbrev pub FenceGoes : (line call : Option ℕ) → (old new : GroupView) → Started → Type 0
FenceGoes line call old new (Sent number) =
    (number ≡ old.traffic.next_message) × (new ≡ fence_sent line call old)
FenceGoes line call old new NoMemory = new ≡ old
FenceGoes line call old new other = ⊥

-- nothing was needed
abbrev pub RestsReady : (old new : GroupView) → Started → Type 0
RestsReady old new Ready = new ≡ old
RestsReady old new other = ⊥

-- the step that was needed was made, or why it was not
abbrev pub Makes : StartStep → (line call : Option ℕ) → (old new : GroupView) → Started → Type 0
Makes need.OpenCache line call old new told = CacheOpens old new told
Makes need.OpenBase line call old new told = BaseOpens old new told
Makes need.Raise line call old new told = EpochRises old new told
Makes need.Fence line call old new told = FenceGoes line call old new told
Makes need.Nothing line call old new told = RestsReady old new told

-- ---- what is needed behind it

-- the place of a step in the order of a start
abbrev pub place : StartStep → ℕ
place need.OpenCache = 0
place need.OpenBase = 1
place need.Raise = 2
place need.Fence = 3
place need.Nothing = 4

-- Nothing more, and the group is ready; a later step; or a Fence, until its Fenced is heard. Behind
-- a fault it may be any.
abbrev pub Leads : StartStep → GroupView → Started → Type 0
Leads made new Ready = IsReady new.stores new.standing
Leads made new Going = (place made < place (start_needed new)) × (place (start_needed new) < 4)
Leads made new (Sent number) = start_needed new ≡ need.Fence
Leads made new (Failed f) = Unit {0}
Leads made new NoMemory = start_needed new ≡ need.Fence

-- what is told where an opening was made, by the step that is needed then
abbrev pub told_opened : StartStep → Started
told_opened need.Nothing = Ready
told_opened other = Going

-- ---- all of it

-- One step of a start: what it made, what is needed behind it, and that it is one step of a run.
pub record Starts (needed : StartStep) (line call : Option ℕ) (old new : GroupView)
    (told : Started) : Type 0 where
  pub makes : Makes needed line call old new told
  pub leads : Leads needed new told
  pub step : IsOneStep old new
