use Rattle.tier_node.proofs.Single.{single}
use Rattle.tier_node.proofs.starting.start_alone.Goals as goal

pub returns-clause-run : goal.returns-clause-run
returns-clause-run g c = single c.args.g.now c.start_step.new.group c.start_step.ensures.step
