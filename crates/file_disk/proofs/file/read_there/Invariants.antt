use Rattle.std.specs.Prelude.{◌≤◌, length}
use Rattle.file_disk.proofs.file.read_there.Given as goal

abbrev pub invariant-loop : goal.invariant-loop
invariant-loop g l = l.count ≤ length l.buf
