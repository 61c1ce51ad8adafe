use Rattle.std.specs.Prelude.{take}
use Rattle.tier_outside.specs.Disk.{is_touched}
use Rattle.mem_disk.specs.Steps.Choosing.{CopiedIn}
use Rattle.mem_disk.proofs.state.copy_ranges.Given as goal

abbrev pub invariant-loop-range : goal.invariant-loop-range
invariant-loop-range l = CopiedIn (is_touched (take l.range-index l.ranges)) l.from l.initial.to l.to
