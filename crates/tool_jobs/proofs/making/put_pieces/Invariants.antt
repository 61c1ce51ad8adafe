use Rattle.std.proofs.Common.{◌≡◌, ◌≤◌, ◌++◌, length}
use Rattle.tool_jobs.specs.Putting.{Took}
use Rattle.tool_jobs.proofs.making.put_pieces.Given as goal

-- what was put, and then what is left, is the text
abbrev pub invariant-loop-rest : goal.invariant-loop-rest
invariant-loop-rest g l = record {
  told : Took (g.K.Sink.held l.fn.out) (g.K.Sink.held l.out) (λ put. put ++ l.rest ≡ l.fn.text);
  later : g.K.Sink.faults l.fn.out ≤ g.K.Sink.faults l.out;
}

abbrev pub decreases-loop-rest : goal.decreases-loop-rest
decreases-loop-rest g l = length l.rest
