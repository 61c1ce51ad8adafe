use Rattle.std.proofs.Common.{length}
use Rattle.script_lang.proofs.Steps.{Gone}
use Rattle.script_lang.proofs.read.read_lines.Given as goal

-- the commands so far, and what is left, say what the text says
abbrev pub invariant-loop-rest : goal.invariant-loop-rest
invariant-loop-rest l = Gone l.lines.items l.context l.number l.rest l.fn.text

abbrev pub decreases-loop-rest : goal.decreases-loop-rest
decreases-loop-rest l = length l.rest
