use Rattle.std.specs.Prelude.{◌≡◌, drop}
use Rattle.rec_codec.specs.Reading.{is_among}
use Rattle.rec_codec.proofs.txn.is_among.Given as goal

-- the answer is that of the changes that are left
abbrev pub invariant-loop-change : goal.invariant-loop-change
invariant-loop-change l = is_among (drop l.change-index l.changes) l.key ≡ is_among l.changes l.key
