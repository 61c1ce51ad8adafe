use Rattle.std.specs.Prelude.{◌≡◌, ◌-◌, []}
use Rattle.std.specs.FinMap as fin
use Rattle.rec_codec.specs.Reading.{pairs_at}
use Rattle.rec_codec.proofs.Loops.{with_front}
use Rattle.rec_codec.proofs.Tables.{IsUnder}
use Rattle.rec_codec.proofs.reading.pairs_at.Given as goal

-- what was read and what is still read are what all gives, and the last key is the greatest
abbrev pub invariant-loop : goal.invariant-loop
invariant-loop l = record {
  so_far : with_front (fin.entries l.table) (pairs_at l.last (l.count - l.counter) l.rest) ≡ pairs_at [] l.count l.bytes;
  under : IsUnder l.last (fin.entries l.table);
}
