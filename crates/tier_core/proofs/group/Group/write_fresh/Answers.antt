use Rattle.std.proofs.Common.{subst, sym}
use Rattle.obj_model.specs.declared.req.Req.{Req}
use Rattle.tier_join.specs.Promises.{with_req}
use Rattle.tier_view.specs.Locals.{ActsHere}
use Rattle.tier_view.specs.Whole.{IsWhole}
use Rattle.tier_view.proofs.Serving.{actless_keeps}
use Rattle.tier_core.specs.Acts.{first_for}
use Rattle.tier_core.specs.Serves.{ServesWrite}
use Rattle.obj_ops.specs.declared.request.Acted.TheVariants.{Fresh}
use Rattle.tier_core.proofs.ServedHere.{hit_acts, stays_step}
use Rattle.tier_core.proofs.group.Group.write_fresh.Goals as goal

pub returns-in_err-req-clause-step : goal.returns-in_err-req-clause-step
returns-in_err-req-clause-step g c =
    let v = c.args.self.now in
    actless_keeps (with_req c.args.req.now) v v (stays_step v (subst IsWhole c.self.view_is c.self.invariant.whole) c.requires.hit.settled)

pub write_here-requires-clause-on : goal.write_here-requires-clause-on
write_here-requires-clause-on g c =
    let v = c.args.self.now in
    subst (λ (q : Req). ActsHere v c.args.turn.call c.args.turn.line q c.args.held c.args.state c.args.reply (first_for v.log.opening q.name c.args.held.state)) (sym c.in_ok-req.ensures)
    (hit_acts v c.args.turn c.args.req.now c.args.held c.args.state c.args.reply c.requires.hit c.requires.lets c.requires.acted)

pub returns-clause-served : goal.returns-clause-served
returns-clause-served g c =
    let v = c.args.self.now in
    let w = c.write_here.new.self in
    subst (λ (q : Req). ServesWrite c.args.turn q c.args.held (Fresh c.args.state c.args.reply) v w c.write_here.result) c.in_ok-req.ensures
    (record { written = c.write_here.ensures.written; put = c.write_here.ensures.put; there = c.write_here.ensures.there })
