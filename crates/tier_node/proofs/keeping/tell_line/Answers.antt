use Rattle.tier_node.proofs.Joined.{run_behind}
use Rattle.tier_node.proofs.Single.{doubting}
use Rattle.tier_node.proofs.keeping.tell_line.Goals as goal

pub returns-clause-run : goal.returns-clause-run
returns-clause-run g c =
    run_behind c.args.g.now c.forget_kept.new.self c.log_answer.new.g
    (doubting c.args.g.now c.forget_kept.new.self c.forget_kept.ensures.step)
    c.log_answer.ensures.run
