use Rattle.std.specs.Prelude.{◌≡◌, ◌++◌, map}
use Rattle.std.specs.Vec.Iter.{into_iter_items}
use Rattle.tier_tool.specs.Tasks.{as_line}
use Rattle.tier_tool.proofs.task.tasks_of.Given as goal

-- the lines of the tasks so far, and those that are left
abbrev pub invariant-loop-numbered : goal.invariant-loop-numbered
invariant-loop-numbered l = map as_line l.tasks.items ++ into_iter_items l.numbered-iterator ≡ l.fn.lines.items
