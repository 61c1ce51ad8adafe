use Rattle.std.specs.Prelude.{◌≡◌, ◌-◌}
use Rattle.rec_codec.specs.Reading.{changes_at}
use Rattle.rec_codec.proofs.Loops.{with_front}
use Rattle.rec_codec.proofs.txn.changes_at.Given as goal

-- what was read and what is still read are what all gives
abbrev pub invariant-loop : goal.invariant-loop
invariant-loop l = with_front l.list.items (changes_at (l.count - l.counter) l.rest) ≡ changes_at l.count l.bytes
