use Rattle.mem_disk.specs.Steps.Choosing.{ChosenIn, is_between}
use Rattle.mem_disk.proofs.pick.choose_part.Given as goal

abbrev pub invariant-loop-at : goal.invariant-loop-at
invariant-loop-at l = ChosenIn l.pick (is_between l.start l.at) l.stable l.initial.content l.content
