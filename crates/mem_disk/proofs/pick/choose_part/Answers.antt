use Rattle.std.proofs.Common.{arith}
use Rattle.mem_disk.proofs.Chosen.{between_reached, chosen_same}
use Rattle.mem_disk.specs.Steps.Choosing.{is_between}
use Rattle.mem_disk.proofs.pick.choose_part.Goals as goal

pub returns : goal.returns
returns c =
    chosen_same c.args.pick (is_between c.args.start c.loop-at.at) (is_between c.args.start c.args.end) c.args.stable.now c.args.content.now c.loop-at.content
    (λ i below. between_reached c.args.start c.loop-at.at c.args.end _ i (omega arith) below) c.loop-at.invariant
