use Rattle.std.proofs.Common.{◌++◌, take}
use Rattle.tool_jobs.proofs.Told.{loses_more}
use Rattle.tool_jobs.proofs.reading.read_whole.Goals as goal

pub returns-then-is_err-clause-given : goal.returns-then-is_err-clause-given
returns-then-is_err-clause-given g c =
    (c.loop-piece.bytes.items ++ take c.in-Ok.count c.fill.new.buf, loses_more _ _ _ _ _ c.loop-piece.invariant.given c.in-Ok.ensures.bytes)
