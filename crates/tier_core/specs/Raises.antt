-- The cache's epoch is raised.
use Rattle.std.specs.Prelude.{◌≡◌, ◌≤◌, ◌<◌, ℕ, ◌+◌, false, length, max, Option, Some, None, Result, Ok, Err}
use Rattle.cache_pool.specs.Puts.{Commits, epoch_put}
use Rattle.cache_pool.specs.Reads.{ReadsEpoch}
use Rattle.obj_model.specs.Limits.{number_limit}
use Rattle.obj_model.specs.declared.change.Pool.TheVariants.{Cache}
use Rattle.store_face.specs.declared.fault.StoreFault.TheVariants.{Disk}
use Rattle.tier_calls.specs.Tables.{TableView}
use Rattle.tier_core.specs.declared.parts.Start.{Start}
use Rattle.tier_core.specs.declared.raising.RaiseFault.{RaiseFault}
use Rattle.tier_core.specs.declared.raising.RaiseFault.TheVariants as fault
use Rattle.tier_join.specs.Steps.{Outcome}
use Rattle.tier_protocol.specs.Tiers.{Phase}
use Rattle.tier_view.specs.Locals.{with_cache}
use Rattle.tier_view.specs.Starts.{raised_there}
use Rattle.tier_view.specs.Views.{GroupView}
use Rattle.tier_view.specs.declared.parts.Pending.{Pending}

-- the epoch above both
abbrev pub epoch_above : (cache_epoch base_epoch : ℕ) → ℕ
epoch_above c b = max c b + 1

abbrev pub next_epoch : GroupView → ℕ
next_epoch v = epoch_above v.standing.cache_epoch v.standing.base_epoch

-- the commit of the epoch above both came to this
pub record CommitsEpoch (old new : GroupView) (result : Outcome) : Type 0 where
  pub low : next_epoch old ≤ number_limit
  pub put : Commits (epoch_put (next_epoch old)) old.stores.cache new.stores.cache result
  pub is : new ≡ raised_there (next_epoch old) new.stores.cache result old

-- The epoch above both is committed, and answered; or why it is not: it is above its limit, and
-- nothing was read; the epoch that the cache has was not read, and all but the cache's store is as
-- it was; or its commit failed, and is in doubt where the disk did.
abbrev pub Raises : (old new : GroupView) → Result ℕ RaiseFault → Type 0
Raises old new (Ok epoch) = (epoch ≡ next_epoch old) × CommitsEpoch old new (Ok tt)
Raises old new (Err (fault.Worn limit)) =
    (limit ≡ number_limit) × (number_limit < next_epoch old) × (new ≡ old)
Raises old new (Err (fault.Read f)) =
    (next_epoch old ≤ number_limit) × ReadsEpoch old.stores.cache new.stores.cache (Err f)
    × (new ≡ with_cache new.stores.cache None old)
Raises old new (Err (fault.Commit f)) = CommitsEpoch old new (Err f)

-- ---- what the commit leaves of the parts

-- operations count anew where it was made
abbrev pub calls_raised : Outcome → TableView → TableView
calls_raised (Ok made) t = record t { earlier = length t.calls.flown }
calls_raised (Err f) t = t

-- the cache is raised where it was made
abbrev pub start_raised : (epoch : ℕ) → Outcome → Start → Start
start_raised e (Ok made) s = record s {
  cache_epoch = e;
  next_opid = 1;
  phase = Phase.Raised;
  fenced = false;
}
start_raised e (Err f) s = s

-- the epoch is in doubt where the disk failed
abbrev pub pending_raised : (epoch : ℕ) → Outcome → Option Pending → Option Pending
pending_raised e (Err Disk) old = Some (Pending.Epoch Cache e)
pending_raised e other old = old

-- what is told of it
abbrev pub told_raised : (epoch : ℕ) → Outcome → Result ℕ RaiseFault
told_raised e (Ok made) = Ok e
told_raised e (Err f) = Err (fault.Commit f)
