-- A store is opened anew, and the act in doubt about it is settled.
use Rattle.std.specs.Prelude.{◌≡◌, ◌≤◌, ℕ, false, Option, Some, None}
use Rattle.agent_state.specs.declared.totals.Totals.{Totals}
use Rattle.obj_model.specs.declared.change.Pool.{Pool}
use Rattle.obj_model.specs.declared.change.Pool.TheVariants.{Cache, Base}
use Rattle.store_face.specs.Calls.{Among}
use Rattle.store_face.specs.Views.{StoreView}
use Rattle.tier_chron.specs.Logs.{acted_log}
use Rattle.tier_chron.specs.declared.entries.Act.{Act}
use Rattle.tier_chron.specs.declared.entries.First.{First}
use Rattle.tier_join.specs.Group.{store_in}
use Rattle.tier_view.specs.Stores.{Pending, Stores}
use Rattle.tier_view.specs.Views.{GroupView, joined}
use Rattle.tier_view.specs.Whole.{AreSums}

-- the stores with this one opened; it runs again, and nothing is in doubt
abbrev pub reopened : Pool → StoreView → Stores → Stores
reopened Cache s x = record x { cache = s; cache_stopped = false; pending = None }
reopened Base s x = record x { base = s; base_stopped = false; pending = None }

-- the group with it; the sums over the cache's records were taken again
abbrev pub settled : Pool → StoreView → Totals → GroupView → GroupView
settled pool s totals v = record v {
  stores = reopened pool s v.stores;
  agent = record v.agent { totals = totals };
}

-- the act is there, and enters the history
abbrev pub settled_with : Pool → StoreView → Totals → Option First → Act → GroupView → GroupView
settled_with pool s totals first a v =
    record (settled pool s totals v) { log = acted_log first a v.log }

-- the store of the act in doubt was opened
pub record Reopens (pool : Pool) (v : GroupView) (first : Option First) (a : Act) (seq : ℕ)
    (s : StoreView) (totals : Totals) : Type 0 where
  pub pending : v.stores.pending ≡ Some (Pending.Act pool first a seq)
  pub among : Among (store_in pool (joined v)) s
  pub later : (store_in pool (joined v)).faults ≤ s.faults
  pub summed : AreSums (settled pool s totals v).stores (settled pool s totals v).agent
