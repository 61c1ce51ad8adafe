use Rattle.tier_stop.proofs.Making.{fenced, not_fenced}
use Rattle.tier_stop.proofs.Needed.{open_at_fence}
use Rattle.tier_stop.proofs.starting.fence.Goals as goal

pub send_fence-requires-clause-settled : goal.send_fence-requires-clause-settled
send_fence-requires-clause-settled g c = (open_at_fence c.args.group.now c.requires).0.settled

pub send_fence-requires-clause-raised : goal.send_fence-requires-clause-raised
send_fence-requires-clause-raised g c = (open_at_fence c.args.group.now c.requires).1

pub returns-in-Ok : goal.returns-in-Ok
returns-in-Ok g c =
    fenced c.args.line c.args.call c.args.group.now c.send_fence.new.self c.in-Ok.number c.requires c.in-Ok.ensures.number c.in-Ok.ensures.sent c.in-Ok.ensures.step

pub returns-in-Err : goal.returns-in-Err
returns-in-Err g c =
    not_fenced c.args.line c.args.call c.args.group.now c.send_fence.new.self c.requires c.in-Err.ensures.refused c.rest.ensures.step
