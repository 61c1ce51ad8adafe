use Rattle.std.proofs.Common.{◌≡◌, drop}
use Rattle.tier_view.specs.Answers.{read_of}
use Rattle.tier_core.proofs.ends.read_of.Given as goal

abbrev pub invariant-loop-read : goal.invariant-loop-read
invariant-loop-read l = read_of l.call (drop l.read-index l.list) ≡ read_of l.call l.list
