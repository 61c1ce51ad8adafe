use Rattle.tier_stop.proofs.Making.{base_not_opened, base_opened}
use Rattle.tier_stop.proofs.starting.open_base.Goals as goal

pub returns-in-Ok : goal.returns-in-Ok
returns-in-Ok g c = λ line call.
    base_opened line call c.args.group.now c.open_base.new.self c.told_opened.result c.requires c.in-Ok.ensures.opened c.in-Ok.ensures.step c.told_opened.ensures

pub returns-in-Err : goal.returns-in-Err
returns-in-Err g c = λ line call.
    base_not_opened line call c.args.group.now c.open_base.new.self c.in-Err.fault c.in-Err.ensures.opened c.in-Err.ensures.step
