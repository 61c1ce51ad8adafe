use Rattle.tier_stop.proofs.Making.{cache_not_opened, cache_opened}
use Rattle.tier_stop.proofs.starting.open_cache.Goals as goal

pub returns-in-Ok : goal.returns-in-Ok
returns-in-Ok g c = λ line call.
    cache_opened line call c.args.group.now c.open_cache.new.self c.told_opened.result c.in-Ok.ensures.opened c.in-Ok.ensures.step c.told_opened.ensures

pub returns-in-Err : goal.returns-in-Err
returns-in-Err g c = λ line call.
    cache_not_opened line call c.args.group.now c.open_cache.new.self c.in-Err.fault c.in-Err.ensures.opened c.in-Err.ensures.step
