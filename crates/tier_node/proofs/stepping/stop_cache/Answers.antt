use Rattle.tier_node.proofs.Single.{doubting}
use Rattle.tier_node.proofs.stepping.stop_cache.Goals as goal

pub returns-clause-run : goal.returns-clause-run
returns-clause-run g c = doubting c.args.g.now c.stop_cache.new.self c.stop_cache.ensures.step
