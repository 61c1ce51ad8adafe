use Rattle.std.specs.Prelude.{take}
use Rattle.tier_flight.specs.Indexes.{AreForgotten, ends_reads}
use Rattle.tier_flight.proofs.numbers.leave_ended_reads.Given as goal

-- the operations that end among the reads so far are taken out
abbrev pub invariant-loop-read : goal.invariant-loop-read
invariant-loop-read l = AreForgotten (ends_reads l.call l.reads (take l.read-index l.reads))
    l.initial.opids l.opids
