use Rattle.std.proofs.Common.{◌-◌, ◌<◌, ◌≤◌}
use Rattle.agent_pick.specs.Steps.{IsBetween}
use Rattle.agent_pick.proofs.temperatures.cold_limit.Given as goal

-- the limit lies between, and so does the next probe
abbrev pub invariant-loop-between : goal.invariant-loop-between
invariant-loop-between l =
    IsBetween l.rows l.effort l.between
    × (l.between.low < l.between.high → (l.between.low ≤ l.probe) × (l.probe < l.between.high))

abbrev pub decreases-loop-between : goal.decreases-loop-between
decreases-loop-between l = l.between.high - l.between.low
