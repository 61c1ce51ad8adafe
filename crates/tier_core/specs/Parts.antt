-- A group's parts, and the group that they make.
use Rattle.std.specs.Prelude.{Bool, false, Option, if◌then◌else◌}
use Rattle.base_pool.specs.Views.{BaseView}
use Rattle.store_face.specs.Views.{StoreView}
use Rattle.tier_chron.specs.Logs.{Log}
use Rattle.tier_core.specs.declared.parts.Agent.{Agent}
use Rattle.tier_core.specs.declared.parts.Start.{Start}
use Rattle.tier_view.specs.Agents.{Agents}
use Rattle.tier_view.specs.Calls.{Calls}
use Rattle.tier_view.specs.Standing.{Standing}
use Rattle.tier_view.specs.Stores.{Stores}
use Rattle.tier_view.specs.Traffic.{Traffic}
use Rattle.tier_view.specs.Views.{GroupView}
use Rattle.tier_view.specs.declared.parts.Pending.{Pending}

-- the base's store, which counts as live only where its epoch was read since it was opened
abbrev pub seen_base : BaseView → StoreView
seen_base b = record b.store { live = if b.opened then b.store.live else false }

abbrev pub stores_of : StoreView → BaseView → (cache_stopped base_stopped : Bool) → Option Pending
    → Stores
stores_of cache base cache_stopped base_stopped pending = record {
  cache = cache;
  base = seen_base base;
  cache_stopped = cache_stopped;
  base_stopped = base_stopped;
  pending = pending;
}

abbrev pub standing_of : Start → Standing
standing_of s = record {
  cache_epoch = s.cache_epoch;
  base_epoch = s.base_epoch;
  next_opid = s.next_opid;
  phase = s.phase;
  fenced = s.fenced;
  kept = s.kept;
}

abbrev pub agent_of : Agent → Agents
agent_of a = record {
  values = a.values;
  share = a.share;
  mode = a.mode;
  modes = a.modes;
  moment = a.moment;
  cursor = a.cursor;
  totals = a.totals;
}

-- a group of these parts
abbrev pub group_of : Stores → Log → Calls → Traffic → Start → Agent → GroupView
group_of stores log calls traffic start agent = record {
  stores = stores;
  log = log;
  calls = calls;
  traffic = traffic;
  standing = standing_of start;
  agent = agent_of agent;
}
