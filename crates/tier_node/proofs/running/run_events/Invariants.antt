use Rattle.std.specs.Prelude.{◌≤◌, ◌+◌, ◌-◌, length, vec_len, vec_capacity}
use Rattle.tier_node.proofs.Listed.{GoesOn}
use Rattle.tier_node.specs.Runs.{IsRun}
use Rattle.tier_node.proofs.running.run_events.Given as goal

-- what is left goes on with what was done, which was a run
abbrev pub invariant-loop-event : goal.invariant-loop-event
invariant-loop-event g l = record {
  on : GoesOn l.events l.fn.g l.g l.event-index l.outcomes.items;
  run : IsRun l.fn.g l.g;
  room : vec_len l.outcomes + (length l.events - l.event-index) ≤ vec_capacity l.outcomes;
}
