-- The cache stops.
use Rattle.std.specs.Prelude.{ℕ, true, false, length, map, Option, Some, None}
use Rattle.std.specs.FinMap as fin
use Rattle.tier_join.specs.Steps.{with_doubt}
use Rattle.tier_protocol.specs.Tiers.{Phase}
use Rattle.tier_view.specs.Calls.{Flown}
use Rattle.tier_view.specs.Laws.{Keeps}
use Rattle.tier_view.specs.Views.{GroupView, joined}
use Rattle.tier_view.specs.Whole.{IsWhole}

-- work that has not gone goes now
abbrev pub gone_by : (now : ℕ) → Option ℕ → Option ℕ
gone_by now None = Some now
gone_by now (Some at) = Some at

abbrev pub gone_at : (now : ℕ) → Flown → Flown
gone_at now f = record f { went = gone_by now f.went }

-- the cache is down, and its work is forgotten; messages, replies and begun flushes stay
abbrev pub with_cache_stopped : GroupView → GroupView
with_cache_stopped v = record v {
  stores = record v.stores { cache_stopped = true };
  calls = record v.calls { flown = map (gone_at (length v.log.answers)) v.calls.flown };
  traffic = record v.traffic { flights = fin.empty };
  standing = record v.standing { phase = Phase.Down; fenced = false };
}

abbrev pub StoppingCacheKeeps : Type 0
StoppingCacheKeeps =
    (v : GroupView) → IsWhole v
    → Keeps (with_doubt (joined v).doubt) None v (with_cache_stopped v)
