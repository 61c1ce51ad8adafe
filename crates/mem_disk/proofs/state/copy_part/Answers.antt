use Rattle.std.proofs.Common.{rules}
use Rattle.mem_disk.proofs.Chosen.{copied_put}
use Rattle.mem_disk.proofs.state.copy_part.Goals as goal

pub returns-then-start-last : goal.returns-then-start-last
returns-then-start-last c =
    copied_put c.args.from.now c.args.to.now c.copy_from_slice.new.self c.args.start c.min-last.result c.args.end c.if-start-last.true (search rules) c.requires (search rules)
