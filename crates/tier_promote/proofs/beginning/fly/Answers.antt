use Rattle.tier_promote.proofs.Flies.{flies_not}
use Rattle.tier_promote.proofs.beginning.fly.Goals as goal

pub returns-in-Err-clause-refused : goal.returns-in-Err-clause-refused
returns-in-Err-clause-refused c =
    flies_not c.args.wires.now c.add.new.self c.args.call c.args.name.now c.args.work c.requires.free c.in_ok-key.key c.in_ok-key.ensures c.in_ok-add.ensures.added c.in_ok-add.ensures.frame
    c.send_for.new.self c.remove.new.self c.in-Err.ensures.refused c.remove.ensures.taken
