use Rattle.tier_node.proofs.Single.{doubting}
use Rattle.tier_node.proofs.forgetting.forget.Goals as goal

pub returns-clause-run : goal.returns-clause-run
returns-clause-run g c = doubting c.args.g.now c.forget_message.new.self c.forget_message.ensures.step
