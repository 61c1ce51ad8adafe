-- A group as it is found when it is attached to its two stores.
use Rattle.std.specs.Prelude.{◌≡◌, ℕ, true, false, [], None}
use Rattle.std.specs.FinMap as fin
use Rattle.obj_ops.specs.Stores.{Store}
use Rattle.pool_keys.specs.Left.{IsLeft, Tells}
use Rattle.store_face.specs.Views.{Holds, Sound, StoreView}
use Rattle.tier_chron.specs.Logs.{empty_log}
use Rattle.tier_join.specs.Group.{BothTell, TwoMaps}
use Rattle.tier_join.specs.Promises.{StandsAt, StandsFor}
use Rattle.tier_join.specs.Steps.{Has}
use Rattle.tier_protocol.specs.Tiers.{Phase}
use Rattle.tier_view.specs.Agents.{Agents}
use Rattle.tier_view.specs.Calls.{Calls}
use Rattle.tier_view.specs.Standing.{Standing}
use Rattle.tier_view.specs.Stores.{Stores}
use Rattle.tier_view.specs.Traffic.{Traffic}
use Rattle.tier_view.specs.Views.{GroupView, joined}
use Rattle.tier_view.specs.Whole.{AreSums, IsWhole}
use Rattle.tier_view.specs.Worlds.{Began}
use Rattle.pool_keys.specs.Values.{IsAtEpoch}

-- ---- the parts as they are found

-- both pools run, and no commit is in doubt
abbrev pub found_stores : (cache base : StoreView) → Stores
found_stores cache base = record {
  cache = cache;
  base = base;
  cache_stopped = false;
  base_stopped = false;
  pending = None;
}

-- no call came, and no work
abbrev pub no_calls : Calls
no_calls = record { entries = []; last = 0; flown = [] }

-- nothing is between the pools; messages and replies are counted from 1
abbrev pub nothing_between : Traffic
nothing_between = record {
  flights = fin.empty;
  begun = [];
  messages = [];
  replies = [];
  next_message = 1;
  next_reply = 1;
  awaited = [];
  noted = [];
}

-- The cache is down, the base has told no epoch, and no Fence keeps anything; operations are
-- counted from 1.
abbrev pub found_standing : (cache_epoch base_epoch : ℕ) → Standing
found_standing cache_epoch base_epoch = record {
  cache_epoch = cache_epoch;
  base_epoch = base_epoch;
  next_opid = 1;
  phase = Phase.Down;
  fenced = false;
  kept = None;
}

-- two stores at these epochs, with nothing behind them but this agent
abbrev pub found_group : (cache base : StoreView) → (cache_epoch base_epoch : ℕ) → Agents
    → GroupView
found_group cache base cache_epoch base_epoch agent = record {
  stores = found_stores cache base;
  log = empty_log;
  calls = no_calls;
  traffic = nothing_between;
  standing = found_standing cache_epoch base_epoch;
  agent = agent;
}

-- ---- what it is found for

-- Whatever a stop now leaves of the one store, with whatever it leaves of the other, stands for
-- this plain store at these epochs. Where either store tells nothing this says nothing.
abbrev pub StandThere : Store → (cache base : StoreView) → (cache_epoch base_epoch : ℕ) → Type 0
StandThere start cache base cache_epoch base_epoch =
    (z : TwoMaps) → IsLeft cache z.cache → IsLeft base z.base
    → StandsAt cache_epoch base_epoch z start

-- ---- the laws

-- A group that is found has what always holds, and began at each plain store that its pools stand
-- for. One such store is wanted only where both stores tell.
abbrev pub FoundingKeeps : Type 0
FoundingKeeps =
    (cache base : StoreView) (cache_epoch base_epoch : ℕ) (agent : Agents)
    → (BothTell (joined (found_group cache base cache_epoch base_epoch agent))
    → (start : Store) × StandThere start cache base cache_epoch base_epoch)
    → AreSums (found_stores cache base) agent
    → IsWhole (found_group cache base cache_epoch base_epoch agent)
    × ((start : Store) → StandThere start cache base cache_epoch base_epoch
    → Began start (found_group cache base cache_epoch base_epoch agent))

-- two stores that do not both tell stand for any plain store, at any epochs
abbrev pub UntoldStoresStand : Type 0
UntoldStoresStand =
    (start : Store) (cache base : StoreView) (cache_epoch base_epoch : ℕ)
    → (Tells cache × Tells base → ⊥) → StandThere start cache base cache_epoch base_epoch

-- Pools whose epochs were read stand for a plain store at these, if they stand for it at all.
abbrev pub StoresStandAsRead : Type 0
StoresStandAsRead =
    (start : Store) (cache base : StoreView) (cache_epoch base_epoch : ℕ)
    → Has cache (IsAtEpoch cache_epoch) → Has base (IsAtEpoch base_epoch)
    → ((z : TwoMaps) → IsLeft cache z.cache → IsLeft base z.base → StandsFor z start)
    → StandThere start cache base cache_epoch base_epoch

-- A live store has one map, so the epoch that was read of it is that of each map that a stop
-- leaves.
abbrev pub EpochsAreAsRead : Type 0
EpochsAreAsRead =
    (s : StoreView) (epoch : ℕ) → Sound s → s.live ≡ true → Holds s (IsAtEpoch epoch)
    → Has s (IsAtEpoch epoch)

-- Stores that have the maps which a stop left, and no others, stand for what those stand for.
abbrev pub StoresStandAnew : Type 0
StoresStandAnew =
    (z : TwoMaps) (plain : Store) (h : StandsFor z plain) (cache base : StoreView)
    → Has cache (λ t. t ≡ z.cache) → Has base (λ t. t ≡ z.base)
    → StandThere plain cache base h.0 h.1
