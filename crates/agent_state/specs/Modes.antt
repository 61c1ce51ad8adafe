-- How the modes of the agent follow from what a cache holds.
use Rattle.std.specs.Prelude.{◌≤◌, ℕ, ◌+◌, ◌-◌, ◌*◌, ◌/◌, ◌^◌, min, max, Bool, true, false, nat_lt, ◌==◌, ◌&&◌, ◌||◌, if◌then◌else◌}
use Rattle.obj_model.specs.declared.tier.PoolValues.{PoolValues}
use Rattle.agent_state.specs.declared.totals.Totals.{Totals}
use Rattle.agent_state.specs.declared.totals.Share.{Share}
use Rattle.agent_state.specs.declared.modes.Modes.{Modes}
use Rattle.agent_state.specs.declared.modes.FlushMode.{FlushMode}
use Rattle.agent_state.specs.declared.modes.FlushMode.TheVariants as flush
use Rattle.agent_state.specs.declared.modes.EvictMode.{EvictMode}
use Rattle.agent_state.specs.declared.modes.EvictMode.TheVariants as evict

-- sums within their limit
pub record AreTotals (t : Totals) : Type 0 where
  pub records_few : t.records ≤ 2 ^ 40
  pub dirty_few : t.dirty ≤ 2 ^ 40
  pub bytes_few : t.bytes ≤ 2 ^ 40

-- the body bytes of an average record, rounded down
abbrev pub average : Totals → ℕ
average t = if t.records == 0 then 0 else t.bytes / t.records

-- a part in millionths of a target; without a target it weighs nothing
abbrev pub micro_of : ℕ → ℕ → ℕ
micro_of part target = if target == 0 then 0 else part * 1000000 / target

-- what so many average records are of the two targets: the larger part, cut down to 64 bits
abbrev pub fill_of : ℕ → Totals → Share → ℕ
fill_of count t s =
    min (2 ^ 64 - 1) (max (micro_of (count * average t) s.bytes) (micro_of count s.objects))

-- the dirty part of the cache
abbrev pub dirty_of : Totals → Share → ℕ
dirty_of t s = fill_of t.dirty t s

-- the whole of the cache
abbrev pub full_of : Totals → Share → ℕ
full_of t s = fill_of t.records t s

-- a threshold lies higher for an agent that rests, and lower for one that works, down to 0
abbrev pub with_slop : Bool → ℕ → ℕ → ℕ
with_slop rests slop target = if rests then target + slop else target - slop

-- the slop of a target: its fiftieth
abbrev pub slop_of : ℕ → ℕ
slop_of target = target / 50

-- it flushes nothing
abbrev pub rests_flush : FlushMode → Bool
rests_flush flush.Idle = true
rests_flush flush.Low = false
rests_flush flush.High = false

-- it evicts nothing
abbrev pub rests_evict : EvictMode → Bool
rests_evict evict.Idle = true
rests_evict evict.Some = false
rests_evict evict.Full = false

-- the flush mode at a dirty part, by the two thresholds; with a threshold of 0 any dirty record
-- counts
abbrev pub flush_at : ℕ → ℕ → ℕ → ℕ → FlushMode
flush_at low high part dirty =
    if nat_lt high part then flush.High
    else if nat_lt low part || low == 0 && nat_lt 0 dirty then flush.Low
    else flush.Idle

-- the flush mode; both thresholds have the slop of the dirty target
abbrev pub flush_of : PoolValues → FlushMode → ℕ → ℕ → FlushMode
flush_of v old part dirty =
    let slop = slop_of v.cache_target_dirty_ratio in
    flush_at
    (with_slop (rests_flush old) slop v.cache_target_dirty_ratio)
    (with_slop (rests_flush old) slop v.cache_target_dirty_high_ratio)
    part
    dirty

-- the full part above which some records are evicted
abbrev pub evict_threshold : PoolValues → EvictMode → ℕ
evict_threshold v old =
    with_slop (rests_evict old) (slop_of v.cache_target_full_ratio) v.cache_target_full_ratio

-- the evict mode at a full part, by the threshold
abbrev pub evict_at : ℕ → ℕ → EvictMode
evict_at threshold part =
    if nat_lt 1000000 part then evict.Full
    else if nat_lt threshold part then evict.Some
    else evict.Idle

-- cut down to a whole number of steps of 100,000
abbrev pub stepped : ℕ → ℕ
stepped effort = effort / 100000 * 100000

-- how far a part is on its way from the threshold to full, at least a tenth
abbrev pub effort_some : ℕ → ℕ → ℕ
effort_some threshold part =
    stepped (max ((part - threshold) * 1000000 / (1000000 - threshold)) 100000)

-- the effort of a mode
abbrev pub effort_at : EvictMode → ℕ → ℕ → ℕ
effort_at evict.Idle threshold part = 0
effort_at evict.Some threshold part = effort_some threshold part
effort_at evict.Full threshold part = 1000000

-- the modes of a cache that holds this, under these pool values and shares, after the old modes
abbrev pub modes_of : Totals → PoolValues → Share → Modes → Modes
modes_of t v s old =
    let mode = evict_at (evict_threshold v old.evict) (full_of t s) in
    record {
      flush = flush_of v old.flush (dirty_of t s) t.dirty;
      evict = mode;
      effort = effort_at mode (evict_threshold v old.evict) (full_of t s);
      dirty_micro = dirty_of t s;
      full_micro = full_of t s;
    }

-- the modes before any were chosen
abbrev pub idle_modes : Modes
idle_modes =
    record {
      flush = flush.Idle;
      evict = evict.Idle;
      effort = 0;
      dirty_micro = 0;
      full_micro = 0;
    }
