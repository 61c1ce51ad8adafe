use Rattle.std.specs.Prelude.{take}
use Rattle.tier_outside.specs.Disk.{is_touched}
use Rattle.mem_disk.specs.Steps.Choosing.{ChosenIn}
use Rattle.mem_disk.proofs.pick.choose_ranges.Given as goal

abbrev pub invariant-loop-range : goal.invariant-loop-range
invariant-loop-range l = ChosenIn l.pick (is_touched (take l.range-index l.ranges)) l.stable l.initial.content l.content
