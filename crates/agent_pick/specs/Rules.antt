-- Which records qualify for a flush or an eviction.
use Rattle.std.specs.Prelude.{ℕ, ◌+◌, ◌*◌, ◌/◌, Bool, true, false, List, length, not, nat_lt, ◌&&◌, if◌then◌else◌}
use Rattle.std.specs.List.{count_by}
use Rattle.agent_state.specs.declared.modes.FlushMode.{FlushMode}
use Rattle.agent_state.specs.declared.modes.FlushMode.TheVariants as flush
use Rattle.agent_state.specs.declared.modes.EvictMode.{EvictMode}
use Rattle.agent_state.specs.declared.modes.EvictMode.TheVariants as evict
use Rattle.agent_state.specs.declared.modes.Modes.{Modes}
use Rattle.obj_model.specs.declared.tier.PoolValues.{PoolValues}
use Rattle.agent_pick.specs.declared.row.Row.{Row}
use Rattle.agent_pick.specs.declared.row.Rule.{Rule}

-- what decides, from its parts
abbrev pub rule_of : Modes → PoolValues → ℕ → Rule
rule_of modes values moment = record { modes = modes; values = values; moment = moment }

-- how many rows are colder than this
abbrev pub colder : List Row → ℕ → ℕ
colder rows temperature = count_by (λ (r : Row). nat_lt r.temperature temperature) rows

-- so many millionths of the rows are colder than this
abbrev pub rank : List Row → ℕ → ℕ
rank rows temperature = 1000000 * colder rows temperature / length rows

-- it ranks below the effort
abbrev pub is_cold : List Row → ℕ → ℕ → Bool
is_cold rows effort temperature = nat_lt (rank rows temperature) effort

-- this moment lies so far back
abbrev pub is_aged : ℕ → ℕ → ℕ → Bool
is_aged moment age now = not (nat_lt now (moment + age))

-- a clean record is evicted in this mode: in some mode the cold ones of sufficient age
abbrev pub evicts : EvictMode → Bool → Bool → Bool
evicts evict.Idle aged cold = false
evicts evict.Some aged cold = aged && cold
evicts evict.Full aged cold = true

-- a dirty record is flushed in these modes: in low mode those of sufficient age, or all where all
-- may be evicted
abbrev pub flushes : FlushMode → EvictMode → Bool → Bool
flushes flush.Idle mode aged = false
flushes flush.Low evict.Idle aged = aged
flushes flush.Low evict.Some aged = aged
flushes flush.Low evict.Full aged = true
flushes flush.High mode aged = true

-- what is asked of a dirty record
abbrev pub wants_flush : Rule → Row → Bool
wants_flush rule r =
    flushes
    rule.modes.flush
    rule.modes.evict
    (is_aged r.mtime rule.values.cache_min_flush_age rule.moment)

-- what is asked of a clean record among these
abbrev pub wants_evict : List Row → Rule → Row → Bool
wants_evict rows rule r =
    evicts
    rule.modes.evict
    (is_aged r.mtime rule.values.cache_min_evict_age rule.moment)
    (is_cold rows rule.modes.effort r.temperature)

-- a row qualifies: it is not busy, and it is flushed where it is dirty and evicted where it is
-- clean
abbrev pub qualifies : List Row → Rule → Row → Bool
qualifies rows rule r =
    not r.busy && (if r.dirty then wants_flush rule r else wants_evict rows rule r)
