-- The cache is read.
use Rattle.std.proofs.Common.{◌≡◌, ◌⊎◌, inl, inr, Bool, true, List, ℕ, Option, None, refl, ap, subst, ◌∙◌}
use Rattle.std.specs.Prelude.{Result, Ok, Err, IfOk}
use Rattle.cache_pool.specs.Reads.{HasRecord, IsLawful, ReadsRecord}
use Rattle.cache_pool.specs.declared.fault.CacheFault.{CacheFault}
use Rattle.cache_pool.specs.declared.fault.CacheFault.TheVariants.{Store, BadRecord}
use Rattle.base_pool.specs.Views.{BaseView}
use Rattle.pool_keys.specs.Left.{IsLeftBy}
use Rattle.store_face.specs.Calls.{Fails, Stays}
use Rattle.store_face.specs.Tables.{Table}
use Rattle.store_face.specs.Views.{CrashMaps, Sound, StoreView}
use Rattle.store_face.specs.declared.fault.StoreFault.TheVariants.{Disk, BadImage, NoSpace, Worn, NoMemory}
use Rattle.tier_calls.specs.Tables.{TableView}
use Rattle.tier_chron.specs.Logs.{Log}
use Rattle.tier_join.proofs.Left.{read_is_left}
use Rattle.tier_join.specs.Promises.{as_it_is}
use Rattle.tier_join.specs.Steps.{Has, HasRec}
use Rattle.tier_types.specs.declared.record.TierRec.{TierRec}
use Rattle.tier_view.specs.Calls.{Calls}
use Rattle.tier_view.specs.Laws.{Keeps}
use Rattle.tier_view.specs.Locals.{LeavesCache, with_cache}
use Rattle.tier_view.specs.Traffic.{Traffic}
use Rattle.tier_view.specs.Views.{GroupView, joined}
use Rattle.tier_view.specs.Whole.{IsWhole}
use Rattle.tier_view.specs.declared.parts.Pending.{Pending}
use Rattle.tier_view.proofs.LocalFrees.{leaving_cache_keeps}
use Rattle.tier_core.specs.Keeps.{IsKept}
use Rattle.tier_core.specs.Parts.{group_of, stores_of}
use Rattle.tier_core.specs.declared.parts.Agent.{Agent}
use Rattle.tier_core.specs.declared.parts.Start.{Start}
use Rattle.tier_core.proofs.Kept.{kept_on}

-- ---- the store

-- a reading changes no map, and the store stays or its disk failed
pub leaves : (name : List ℕ) (s t : StoreView) (result : Result (Option TierRec) CacheFault) → ReadsRecord name s t result → (t.moments ≡ s.moments) × (Stays s t ⊎ Fails s t)
leaves name s t (Ok rec) h = (h.2.moments, inl h.2)
leaves name s t (Err (Store Disk)) h = (h.1, inr h.0)
leaves name s t (Err (Store (BadImage at))) h = absurd h
leaves name s t (Err (Store (NoSpace used need limit))) h = absurd h
leaves name s t (Err (Store (Worn limit))) h = absurd h
leaves name s t (Err (Store NoMemory)) h = (h.moments, inl h)
leaves name s t (Err (BadRecord other)) h = (h.2.moments, inl h.2)

-- what was read of a live store is in each map that a stop leaves then
has_read : (name : List ℕ) (s t : StoreView) (result : Result (Option TierRec) CacheFault) → Sound s → s.live ≡ true → ReadsRecord name s t result
    → IfOk result (λ rec. Has t (HasRecord name rec))
has_read name s t (Ok rec) sound live h =
    λ x left. read_is_left s (HasRecord name rec) sound live h.1 x (subst (λ (m : Option (List CrashMaps)). IsLeftBy m x) h.2.moments left)
has_read name s t (Err fault) sound live h = tt

-- ---- the group

-- the parts with another store of the cache, where no commit is in doubt
pub cache_is : (s t : StoreView) (base : BaseView) (cache_stopped base_stopped : Bool) (pending : Option Pending) (log : Log) (calls : Calls) (traffic : Traffic) (start : Start) (agent : Agent)
    → pending ≡ None
    → group_of (stores_of t base cache_stopped base_stopped pending) log calls traffic start agent
    ≡ with_cache t None (group_of (stores_of s base cache_stopped base_stopped pending) log calls traffic start agent)
cache_is s t base cache_stopped base_stopped pending log calls traffic start agent none =
    ap (λ (p : Option Pending). group_of (stores_of t base cache_stopped base_stopped p) log calls traffic start agent) none

pub read_step : (v : GroupView) (name : List ℕ) (t : StoreView) (result : Result (Option TierRec) CacheFault) → IsWhole v → v.stores.pending ≡ None
    → ReadsRecord name v.stores.cache t result → Keeps as_it_is None v (with_cache t None v)
read_step v name t result whole none read =
    let l = leaves name v.stores.cache t result read in
    leaving_cache_keeps v t whole none (record { moments = l.0; later = l.1 })

pub read_kept : (v : GroupView) (base : BaseView) (table : TableView) (name : List ℕ) (t : StoreView) (result : Result (Option TierRec) CacheFault) → IsKept v base table → v.stores.pending ≡ None
    → ReadsRecord name v.stores.cache t result → Sound t → IsKept (with_cache t None v) base table
read_kept v base table name t result h none read sound =
    kept_on v (with_cache t None v) base table h (read_step v name t result h.whole none read).0 sound refl refl refl

-- what is known of the record then
pub record_found : (v : GroupView) (name : List ℕ) (t : StoreView) (result : Result (Option TierRec) CacheFault) → Sound v.stores.cache → v.stores.cache.live ≡ true
    → ReadsRecord name v.stores.cache t result → IfOk result (λ rec. HasRec (joined (with_cache t None v)) name rec)
record_found v name t result sound live read = has_read name v.stores.cache t result sound live read

pub record_lawful : (name : List ℕ) (s t : StoreView) (result : Result (Option TierRec) CacheFault) → ReadsRecord name s t result → IfOk result IsLawful
record_lawful name s t (Ok rec) h = h.0
record_lawful name s t (Err fault) h = tt

-- nothing changed but the memory that a history has
pub nothing_is : (s : StoreView) (base : BaseView) (cache_stopped base_stopped : Bool) (pending : Option Pending) (log after : Log) (calls : Calls) (traffic : Traffic) (start : Start) (agent : Agent)
    → pending ≡ None → after ≡ log
    → group_of (stores_of s base cache_stopped base_stopped pending) after calls traffic start agent
    ≡ with_cache s None (group_of (stores_of s base cache_stopped base_stopped pending) log calls traffic start agent)
nothing_is s base cache_stopped base_stopped pending log after calls traffic start agent none same =
    ap (λ (l : Log). group_of (stores_of s base cache_stopped base_stopped pending) l calls traffic start agent) same
    ∙ cache_is s s base cache_stopped base_stopped pending log calls traffic start agent none
