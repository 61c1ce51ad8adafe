use Rattle.std.proofs.Common.{ap}
use Rattle.copy_chunk.specs.Steps.{state_of}
use Rattle.copy_chunk.proofs.Gathering.{values, gathered_nothing}
use Rattle.copy_chunk.proofs.gather.Gather.new.Goals as goal

pub invariant_of-result : goal.invariant_of-result
invariant_of-result c =
    gathered_nothing (state_of c.new.result) (values c.new-2.result.items) c.new.ensures
    (ap values c.new-2.ensures.items)
