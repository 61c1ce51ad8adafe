use Rattle.std.specs.Prelude.{◌≡◌, ◌-◌}
use Rattle.rec_codec.specs.Reading.{kepts_at}
use Rattle.rec_codec.proofs.Loops.{with_front}
use Rattle.rec_codec.proofs.reading.kepts_at.Given as goal

-- what was read and what is still read are what all gives
abbrev pub invariant-loop : goal.invariant-loop
invariant-loop l = with_front l.list.items (kepts_at l.last (l.count - l.counter) l.rest) ≡ kepts_at 0 l.count l.bytes
