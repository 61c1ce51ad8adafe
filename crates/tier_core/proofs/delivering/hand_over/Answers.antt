use Rattle.tier_core.proofs.HandedOver.{sent_lawful, served_is}
use Rattle.tier_core.proofs.delivering.hand_over.Goals as goal

pub find_stake-requires-clause-lawful : goal.find_stake-requires-clause-lawful
find_stake-requires-clause-lawful g c =
    sent_lawful c.args.number c.args.wires.now.traffic c.ready-room.new.wires.traffic c.in-Some.sent.now c.ready-room.ensures.same c.in-Some.ensures c.requires.lawful

pub serve-answer-requires-clause-lawful : goal.serve-answer-requires-clause-lawful
serve-answer-requires-clause-lawful g c =
    sent_lawful c.args.number c.args.wires.now.traffic c.ready-room.new.wires.traffic c.in-Some.sent.now c.ready-room.ensures.same c.in-Some.ensures c.requires.lawful

pub returns-in-Ok-find_stake-clause-parts : goal.returns-in-Ok-find_stake-clause-parts
returns-in-Ok-find_stake-clause-parts g c =
    let f = c.in-Ok-find_stake.ensures in
    let s = c.settle.ensures in
    served_is c.args.number c.args.wires.now.traffic c.ready-room.new.wires.traffic c.in-Some.sent.now c.ready-room.ensures.same c.in-Some.ensures
    c.args.base.now c.serve-answer.new.self c.args.epoch.now c.epoch.result c.args.pending.now c.settle.new.pending
    c.args.history.now.log c.find_stake.new.history.log c.settle.new.history.log c.settle.new.wires.traffic
    c.find_stake.new.base c.in-Ok-find_stake.stake c.serve-answer.result c.settle.result
    f.named f.found c.serve-answer.ensures.served c.epoch.ensures.epoch f.same s.pending s.log s.traffic s.outcome
