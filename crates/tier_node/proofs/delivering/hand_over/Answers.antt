use Rattle.tier_node.proofs.Delivered.{delivered_run}
use Rattle.tier_node.proofs.delivering.hand_over.Goals as goal

pub returns-clause-run : goal.returns-clause-run
returns-clause-run g c =
    delivered_run c.args.message c.args.g.now c.deliver.new.self c.deliver.result c.deliver.ensures
