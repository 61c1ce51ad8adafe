use Rattle.std.proofs.Common.{◌≡◌, List, length, Some, ap, subst, sym, ◌∙◌}
use Rattle.tier_chron.specs.Logs.{Log}
use Rattle.tier_chron.specs.declared.entries.Act.{Act}
use Rattle.tier_chron.specs.declared.entries.Logged.{Logged}
use Rattle.tier_core.proofs.LandedAll.{ends_owner}
use Rattle.tier_core.proofs.lands.land.Goals as goal

pub returns-in-Some : goal.returns-in-Some
returns-in-Some c =
    let log : Log = c.args.history.now.log in
    let e = c.end_parts.ensures in
    let answers : length c.answers.result.now ≡ length log.answers = ap {A = List Logged} length c.answers.ensures in
    let acts : length c.acts-in-Some.result.now ≡ length log.acts = ap {A = List Act} length c.acts-in-Some.ensures in
    ends_owner c.args.told c.args.number log c.end_parts.new.history.log c.args.calls.now c.land_work.new.calls c.end_parts.new.calls c.args.wires.now c.land_work.new.wires c.end_parts.new.wires
    c.in-Some.turn c.own_for-own.result (length c.answers.result.now) (length c.acts-in-Some.result.now) c.acts.result.now c.landed_here-logged.result c.end_parts.result
    answers acts c.acts.ensures c.land_work.ensures.calls c.land_work.ensures.wires (sym c.in-Some.ensures) c.own_for-own.ensures c.landed_here-logged.ensures
    e.log e.goes e.reads e.left e.calls e.wires
