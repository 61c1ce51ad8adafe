use Rattle.std.proofs.Common.{◌≤◌, drop}
use Rattle.tier_tool.specs.Steps.Telling.{ToldSoFar}
use Rattle.tool_jobs.specs.Putting.{Took}
use Rattle.tier_tool.proofs.telling.tell_lines.Given as goal

abbrev pub invariant-loop-numbered : goal.invariant-loop-numbered
invariant-loop-numbered g l = record {
  told : Took (g.K.Sink.held l.fn.out) (g.K.Sink.held l.out) (ToldSoFar l.lines (drop l.numbered-index l.lines) l.acts l.fn.pool l.pool);
  few : l.acts ≤ l.numbered-index;
  sink_later : g.K.Sink.faults l.fn.out ≤ g.K.Sink.faults l.out;
  disk_later : l.fn.pool.faults ≤ l.pool.faults;
}
