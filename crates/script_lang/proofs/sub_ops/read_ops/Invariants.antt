use Rattle.std.proofs.Common.{length}
use Rattle.script_lang.proofs.Vectors.{Left}
use Rattle.script_lang.proofs.sub_ops.read_ops.Given as goal

-- the sub-operations so far, and what is left, say what all words say
abbrev pub invariant-loop-ops : goal.invariant-loop-ops
invariant-loop-ops l = Left l.ops l.words l.fn.words

abbrev pub decreases-loop-ops : goal.decreases-loop-ops
decreases-loop-ops l = length l.words
