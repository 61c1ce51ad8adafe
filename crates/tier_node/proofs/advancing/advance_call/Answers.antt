use Rattle.tier_node.proofs.Single.{quietly}
use Rattle.tier_node.proofs.advancing.advance_call.Goals as goal

pub returns-in-Some-clause-run : goal.returns-in-Some-clause-run
returns-in-Some-clause-run g c = quietly c.args.g.now c.restart.new.g c.restart.ensures.step
