use Rattle.std.specs.Prelude.{◌≡◌, length}
use Rattle.rec_codec.specs.Reading.{are_apart}
use Rattle.rec_codec.proofs.txn.are_apart.Given as goal

-- the answer is that of the changes that are left
abbrev pub invariant-loop-rest : goal.invariant-loop-rest
invariant-loop-rest l = are_apart l.rest ≡ are_apart l.changes

abbrev pub decreases-loop-rest : goal.decreases-loop-rest
decreases-loop-rest l = length l.rest
