use Rattle.std.specs.Prelude.{take}
use Rattle.tier_flight.specs.Indexes.{AreForgotten}
use Rattle.tier_flight.specs.Numbers.{reads_call, reads_opid}
use Rattle.tier_flight.proofs.numbers.Numbers.leave_reads.Given as goal

-- the numbers of the reads so far are taken out
abbrev pub invariant-loop-read : goal.invariant-loop-read
invariant-loop-read l =
    AreForgotten (λ k. reads_opid k (take l.read-index l.reads)) l.initial.self.opids l.self.opids
    × AreForgotten (λ k. reads_call k (take l.read-index l.reads)) l.initial.self.calls l.self.calls
