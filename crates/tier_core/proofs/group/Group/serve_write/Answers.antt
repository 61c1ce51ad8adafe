use Rattle.std.proofs.Common.{subst, sym}
use Rattle.std.specs.List.{AllByRecursion}
use Rattle.base_pool.specs.Serves.{IsWriteReq}
use Rattle.obj_model.specs.States.{IsState}
use Rattle.obj_ops.specs.Acts.{state_after}
use Rattle.obj_ops.specs.declared.request.Acted.{Acted}
use Rattle.tier_chron.specs.declared.asked.Asked.TheVariants.{Write}
use Rattle.tier_join.specs.Promises.{with_req}
use Rattle.tier_view.specs.Views.{GroupView}
use Rattle.tier_view.specs.Whole.{IsWhole}
use Rattle.tier_view.specs.declared.parts.Entry.{Entry}
use Rattle.tier_view.proofs.Serving.{actless_keeps}
use Rattle.tier_core.specs.Keeps.{MayBeAsked}
use Rattle.tier_core.proofs.ServedHere.{asked_lawful, stays_step}
use Rattle.tier_core.proofs.group.Group.serve_write.Goals as goal

pub act-requires-clause-writes : goal.act-requires-clause-writes
act-requires-clause-writes g c =
    let lawful : IsWriteReq c.args.req.now =
    asked_lawful c.args.self.now c.args.turn (Write c.args.req.now) (subst (λ (x : GroupView). AllByRecursion (λ (e : Entry). MayBeAsked e.asked) x.calls.entries) c.self.view_is c.self.invariant.asked) c.requires.hit.is_turn in
    lawful.writes

pub act-requires-clause-client_low : goal.act-requires-clause-client_low
act-requires-clause-client_low g c =
    let lawful : IsWriteReq c.args.req.now =
    asked_lawful c.args.self.now c.args.turn (Write c.args.req.now) (subst (λ (x : GroupView). AllByRecursion (λ (e : Entry). MayBeAsked e.asked) x.calls.entries) c.self.view_is c.self.invariant.asked) c.requires.hit.is_turn in
    lawful.client_low

pub act-requires-clause-client_high : goal.act-requires-clause-client_high
act-requires-clause-client_high g c =
    let lawful : IsWriteReq c.args.req.now =
    asked_lawful c.args.self.now c.args.turn (Write c.args.req.now) (subst (λ (x : GroupView). AllByRecursion (λ (e : Entry). MayBeAsked e.asked) x.calls.entries) c.self.view_is c.self.invariant.asked) c.requires.hit.is_turn in
    lawful.client_high

pub returns-in_err-acted-clause-step : goal.returns-in_err-acted-clause-step
returns-in_err-acted-clause-step g c =
    let v = c.args.self.now in
    actless_keeps (with_req c.args.req.now) v v (stays_step v (subst IsWhole c.self.view_is c.self.invariant.whole) c.requires.hit.settled)

pub serve_acted-requires-clause-lawful : goal.serve_acted-requires-clause-lawful
serve_acted-requires-clause-lawful g c =
    let lawful : IsWriteReq c.args.req.now =
    asked_lawful c.args.self.now c.args.turn (Write c.args.req.now) (subst (λ (x : GroupView). AllByRecursion (λ (e : Entry). MayBeAsked e.asked) x.calls.entries) c.self.view_is c.self.invariant.asked) c.requires.hit.is_turn in
    subst (λ (a : Acted). IsState (state_after c.args.held.state a)) (sym c.in_ok-acted.ensures.exact) (c.in_ok-acted.ensures.lawful lawful.tid c.requires.lawful)
