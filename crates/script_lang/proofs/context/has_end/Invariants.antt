use Rattle.std.proofs.Common.{◌≡◌, length}
use Rattle.script_lang.specs.Contexts.{has_end}
use Rattle.script_lang.specs.Scripts.{lines_of}
use Rattle.script_lang.proofs.context.has_end.Given as goal

-- the end is among the lines that are left
abbrev pub invariant-loop-rest : goal.invariant-loop-rest
invariant-loop-rest l = has_end (lines_of l.rest) ≡ has_end (lines_of l.fn.text)

abbrev pub decreases-loop-rest : goal.decreases-loop-rest
decreases-loop-rest l = length l.rest
