use Rattle.std.specs.Prelude.{◌≡◌, ◌-◌}
use Rattle.rec_codec.proofs.Loops.{with_front}
use Rattle.req_codec.specs.Reading.{ops_at}
use Rattle.req_codec.proofs.reading.ops_at.Given as goal

-- what was read and what is still read are what all gives
abbrev pub invariant-loop : goal.invariant-loop
invariant-loop l = with_front l.list.items (ops_at (l.count - l.counter) l.rest) ≡ ops_at l.count l.bytes
