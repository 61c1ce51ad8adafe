-- A call goes on.
use Rattle.std.specs.Prelude.{◌⊎◌, ◌&&◌, ℕ, Bool, true, false, not, nat_lt, if◌then◌else◌, Option, Some, None}
use Rattle.tier_chron.specs.declared.answer.Answer.TheVariants as answer
use Rattle.tier_chron.specs.declared.asked.Asked.{Asked}
use Rattle.tier_chron.specs.declared.asked.Asked.TheVariants as asked
use Rattle.tier_core.specs.Turns.{HasNoTurn, HasTurn}
use Rattle.tier_core.specs.declared.turns.Turn.{Turn}
use Rattle.tier_node.specs.Starting.{Leaves}
use Rattle.tier_node.specs.Tells.{Tells}
use Rattle.tier_node.specs.declared.outcome.Outcome.{Outcome}
use Rattle.tier_node.specs.declared.outcome.Outcome.TheVariants.{Going, NotReady, Nothing}
use Rattle.tier_view.specs.Calls.{entry_of}
use Rattle.tier_view.specs.Views.{GroupView}
use Rattle.tier_view.specs.Whole.{IsReady}
use Rattle.tier_view.specs.declared.parts.Entry.{Entry}

-- A call that asked this is told a start of the cache in between by the epoch of its own first step.
-- A finish is told by that of its flush; a flush that only begins, an eviction and a start end with
-- their first step.
abbrev pub may_restart : Asked → Bool
may_restart (asked.Write req) = true
may_restart (asked.Read client name vector) = true
may_restart (asked.Flush name blocking begin_only) = not begin_only
may_restart (asked.Finish name) = false
may_restart (asked.Evict name) = false
may_restart asked.Drain = true
may_restart asked.Agent = true
may_restart asked.Start = false

-- the epoch that the call of this entry is told, where it began in an earlier one than this
abbrev pub restart_of : (epoch : ℕ) → Option Entry → Option ℕ
restart_of epoch None = None
restart_of epoch (Some e) =
    if nat_lt e.epoch epoch && may_restart e.asked then Some e.epoch else None

-- a call that began in an earlier epoch is told so, and is over; any other goes on as it is
abbrev pub GoesOn : Turn → (was : Option ℕ) → (old new : GroupView) → Outcome → Type 0
GoesOn turn None old new outcome = Leaves (Going (Some turn.call)) old new outcome
GoesOn turn (Some was) old new outcome =
    Tells turn (answer.Restarted was old.standing.cache_epoch) old new outcome

-- NotReady exactly where the group is not ready
abbrev pub AdvancesCall : Turn → (old new : GroupView) → Outcome → Type 0
AdvancesCall turn old new outcome =
    (IsReady old.stores old.standing
    × GoesOn turn (restart_of old.standing.cache_epoch (entry_of old.calls.entries turn.call)) old
    new outcome)
    ⊎ ((IsReady old.stores old.standing → ⊥) × Leaves NotReady old new outcome)

-- Nothing exactly where the call is not in flight, or has no line
abbrev pub Advances : (call : ℕ) → (old new : GroupView) → Outcome → Type 0
Advances call old new outcome =
    ((turn : Turn) × HasTurn old call turn × AdvancesCall turn old new outcome)
    ⊎ (HasNoTurn old call × Leaves Nothing old new outcome)
