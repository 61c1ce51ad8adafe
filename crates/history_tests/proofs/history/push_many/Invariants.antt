use Rattle.std.proofs.Common.{◌≤◌, ◌+◌}
use Rattle.history_tests.proofs.history.push_many.Given as goal

-- there is room for what is left
abbrev pub invariant-loop-call : goal.invariant-loop-call
invariant-loop-call l = l.count ≤ l.history.spare + l.call
