use Rattle.tier_stop.proofs.Making.{not_raised, raised}
use Rattle.tier_stop.proofs.Needed.{open_at_raise}
use Rattle.tier_stop.proofs.starting.raise.Goals as goal

pub raise_epoch-requires-clause-live : goal.raise_epoch-requires-clause-live
raise_epoch-requires-clause-live g c = (open_at_raise c.args.group.now c.requires).0.cache

pub raise_epoch-requires-clause-runs : goal.raise_epoch-requires-clause-runs
raise_epoch-requires-clause-runs g c = (open_at_raise c.args.group.now c.requires).0.cache_runs

pub raise_epoch-requires-clause-settled : goal.raise_epoch-requires-clause-settled
raise_epoch-requires-clause-settled g c = (open_at_raise c.args.group.now c.requires).0.settled

pub raise_epoch-requires-clause-down : goal.raise_epoch-requires-clause-down
raise_epoch-requires-clause-down g c = (open_at_raise c.args.group.now c.requires).1

pub returns-in-Ok : goal.returns-in-Ok
returns-in-Ok g c = λ line call.
    raised line call c.args.group.now c.raise_epoch.new.self c.in-Ok.field-0 c.requires c.in-Ok.ensures.raised c.in-Ok.ensures.step

pub returns-in-Err : goal.returns-in-Err
returns-in-Err g c = λ line call.
    not_raised line call c.args.group.now c.raise_epoch.new.self c.in-Err.fault c.in-Err.ensures.raised c.in-Err.ensures.step
