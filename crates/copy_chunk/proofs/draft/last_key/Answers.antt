use Rattle.std.proofs.Common.{sym}
use Rattle.std.specs.Prelude.{None}
use Rattle.copy_chunk.proofs.Keys.{last_at}
use Rattle.copy_chunk.proofs.draft.last_key.Goals as goal

pub returns-in-Some : goal.returns-in-Some
returns-in-Some c =
    sym (last_at None c.args.table.now.entries
    (c.in-Some.key.now, c.in-Some.field-0-1.now) c.in-Some.ensures.last)
