use Rattle.mem_disk.proofs.Chosen.{chosen_ranges}
use Rattle.mem_disk.proofs.pick.choose_ranges.Goals as goal

pub loop-range-preserved : goal.loop-range-preserved
loop-range-preserved c =
    chosen_ranges c.args.pick c.args.ranges.now c.loop-range.range-index c.args.stable.now c.args.content.now c.loop-range.content c.choose_part.new.content
    c.loop-range-test.true c.loop-range.invariant c.choose_part.ensures
