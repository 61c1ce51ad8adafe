use Rattle.mem_disk.proofs.Chosen.{copied_ranges}
use Rattle.mem_disk.proofs.state.copy_ranges.Goals as goal

pub loop-range-preserved : goal.loop-range-preserved
loop-range-preserved c =
    copied_ranges c.args.ranges.now c.loop-range.range-index c.args.from.now c.args.to.now c.loop-range.to c.copy_part.new.to
    c.loop-range-test.true c.loop-range.invariant c.copy_part.ensures
