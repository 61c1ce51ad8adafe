use Rattle.tier_node.proofs.Single.{quietly}
use Rattle.tier_node.proofs.receiving.take_lack.Goals as goal

pub returns-in-Ok-clause-run : goal.returns-in-Ok-clause-run
returns-in-Ok-clause-run g c = quietly c.args.g.now c.lack_write.new.self c.in-Ok.ensures.step
