use Rattle.tier_node.proofs.Single.{doubting}
use Rattle.tier_node.proofs.forgetting.forget_reply.Goals as goal

pub returns-clause-run : goal.returns-clause-run
returns-clause-run g c = doubting c.args.g.now c.forget_reply.new.self c.forget_reply.ensures.step
