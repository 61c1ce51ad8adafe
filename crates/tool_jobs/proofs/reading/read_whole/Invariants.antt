use Rattle.std.proofs.Common.{◌-◌, ◌≤◌, vec_len}
use Rattle.tier_outside.specs.Streams.{Loses}
use Rattle.tool_jobs.proofs.reading.read_whole.Given as goal

abbrev pub invariant-loop-piece : goal.invariant-loop-piece
invariant-loop-piece g l = record {
  given : Loses (g.S.Source.left l.fn.source) (g.S.Source.left l.source) l.bytes.items;
  later : g.S.Source.faults l.fn.source ≤ g.S.Source.faults l.source;
}

abbrev pub decreases-loop-piece : goal.decreases-loop-piece
decreases-loop-piece g l = 268435457 - vec_len l.bytes
