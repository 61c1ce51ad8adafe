-- Either pool stops.
use Rattle.std.proofs.Common.{◌≡◌, ◌+◌, ℕ, true, List, [], ◌∷◌, suc, length, map, None, refl, ap, sym, ◌∙◌}
use Rattle.std.specs.FinMap as fin
use Rattle.base_pool.specs.Views.{BaseView}
use Rattle.tier_calls.specs.Tables.{TableView}
use Rattle.tier_chron.specs.Logs.{Log}
use Rattle.tier_core.specs.Keeps.{IsKept}
use Rattle.tier_core.specs.Parts.{group_of}
use Rattle.tier_core.specs.Steps.{IsStep}
use Rattle.tier_core.specs.Stops.{all_gone, down}
use Rattle.tier_core.specs.declared.parts.Agent.{Agent}
use Rattle.tier_core.specs.declared.parts.Start.{Start}
use Rattle.tier_traffic.specs.Wires.{WiresView, with_flights}
use Rattle.tier_view.specs.declared.parts.Flown.{Flown}
use Rattle.tier_view.specs.Starts.{with_base_stopped}
use Rattle.tier_view.specs.Stops.{gone_at, with_cache_stopped}
use Rattle.tier_view.specs.Stores.{Stores}
use Rattle.tier_view.specs.Views.{GroupView}
use Rattle.tier_view.proofs.StartingRests.{stopping_base_keeps}
use Rattle.tier_view.proofs.Stopping.{stopping_cache_keeps}

-- a stop keeps the length of the table of work
pub count_gone : (now : ℕ) (fs : List Flown) → length (map (gone_at now) fs) ≡ length fs
count_gone now [] = refl
count_gone now (f ∷ fs) = ap suc (count_gone now fs)

pub cache_stop_kept : (v : GroupView) (base : BaseView) (t : TableView) → IsKept v base t → IsKept (with_cache_stopped v) base (all_gone (length v.log.answers) t)
cache_stop_kept v base t h = record {
  whole = (stopping_cache_keeps v h.whole).0;
  cached = h.cached;
  based = h.based;
  level = h.level;
  counted = h.counted ∙ ap (λ (n : ℕ). n + 1) (sym (count_gone (length v.log.answers) v.calls.flown));
  messages = h.messages;
  asked = h.asked;
}

pub base_stop_kept : (v : GroupView) (base : BaseView) (t : TableView) → IsKept v base t → IsKept (with_base_stopped v) base t
base_stop_kept v base t h = record {
  whole = (stopping_base_keeps v h.whole).0;
  cached = h.cached;
  based = h.based;
  level = h.level;
  counted = h.counted;
  messages = h.messages;
  asked = h.asked;
}

-- the parts, where the cache stops
pub stopped_is : (stores : Stores) (log : Log) (t u : TableView) (w x : WiresView) (start after : Start) (agent : Agent) → u ≡ all_gone (length log.answers) t → x ≡ with_flights fin.empty w → after ≡ down start
    → group_of (record stores { cache_stopped = true }) log u.calls x.traffic after agent ≡ with_cache_stopped (group_of stores log t.calls w.traffic start agent)
stopped_is stores log t u w x start after agent calls wires starts =
    ap (λ (y : TableView). group_of (record stores { cache_stopped = true }) log y.calls x.traffic after agent) calls
    ∙ ap (λ (y : WiresView). group_of (record stores { cache_stopped = true }) log (all_gone (length log.answers) t).calls y.traffic after agent) wires
    ∙ ap (λ (s : Start). group_of (record stores { cache_stopped = true }) log (all_gone (length log.answers) t).calls (with_flights fin.empty w).traffic s agent) starts

pub stopping_cache_steps : (v : GroupView) (base : BaseView) (t : TableView) → IsKept v base t → IsStep None v (with_cache_stopped v)
stopping_cache_steps v base t h = stopping_cache_keeps v h.whole

pub stopping_base_steps : (v : GroupView) (base : BaseView) (t : TableView) → IsKept v base t → IsStep None v (with_base_stopped v)
stopping_base_steps v base t h = stopping_base_keeps v h.whole
