use Rattle.std.proofs.Common.{Some}
use Rattle.tier_core.proofs.LookedThere.{act_there, not_held, other_act, other_plain}
use Rattle.tier_core.proofs.opening_base.find_doubt.Goals as goal

pub returns-in-Err-clause-found : goal.returns-in-Err-clause-found
returns-in-Err-clause-found g c =
    not_held (Some c.args.doubt.now) c.args.kept c.args.base.now c.hold_epoch.new.base c.in-Err.fault
    (other_plain c.args.doubt.now c.in-Plain.pool c.in-Plain.name c.args.base.now.epoch c.in-Plain.is) c.requires.live c.in-Err.ensures.was_sound c.in-Err.ensures.held

pub returns-in-Err-hold_epoch-clause-found : goal.returns-in-Err-hold_epoch-clause-found
returns-in-Err-hold_epoch-clause-found g c =
    let i = c.in-Act in
    not_held (Some c.args.doubt.now) c.args.kept c.args.base.now c.hold_epoch-in-Act.new.base c.in-Err-hold_epoch.fault
    (other_act c.args.doubt.now i.pool i.first i.act i.seq c.args.base.now.epoch i.is) c.requires.live c.in-Err-hold_epoch.ensures.was_sound c.in-Err-hold_epoch.ensures.held

pub returns-in-Ok-hold_epoch-clause-found : goal.returns-in-Ok-hold_epoch-clause-found
returns-in-Ok-hold_epoch-clause-found g c =
    let i = c.in-Act in
    act_there c.args.doubt.now i.pool i.first i.act i.seq c.args.kept c.args.base.now c.hold_epoch-in-Act.new.base c.find_act.new.base c.find_act.result i.is c.requires.there
    c.in-Ok-hold_epoch.ensures.held (c.find_act.ensures.found i.first)
