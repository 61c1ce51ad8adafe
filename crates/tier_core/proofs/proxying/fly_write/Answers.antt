use Rattle.tier_core.proofs.Flies.{flies_not}
use Rattle.tier_core.proofs.proxying.fly_write.Goals as goal

pub returns-clause-refused : goal.returns-clause-refused
returns-clause-refused c =
    flies_not c.args.wires.now c.add.new.self c.args.turn c.args.epoch c.args.opid c.args.req c.requires.free c.in_ok-key.key c.in_ok-key.ensures c.in_ok-add.ensures.added c.in_ok-add.ensures.frame
    c.send_for.new.self c.remove.new.self c.in_ok-name.name c.in_ok-name.ensures c.in-Err.ensures.refused c.remove.ensures.taken
