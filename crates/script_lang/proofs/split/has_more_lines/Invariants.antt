use Rattle.std.proofs.Common.{◌≡◌, ◌+◌, ◌≤◌, length}
use Rattle.script_lang.specs.Scripts.{lines_of}
use Rattle.script_lang.proofs.split.has_more_lines.Given as goal

-- the lines so far, and those that are left
abbrev pub invariant-loop-rest : goal.invariant-loop-rest
invariant-loop-rest l =
    (l.count + length (lines_of l.rest) ≡ length (lines_of l.fn.text)) × (l.count ≤ l.fn.limit)

abbrev pub decreases-loop-rest : goal.decreases-loop-rest
decreases-loop-rest l = length l.rest
