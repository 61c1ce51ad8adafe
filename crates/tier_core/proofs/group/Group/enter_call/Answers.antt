use Rattle.std.proofs.Common.{◌≡◌, List, length, OnOk, Some, ap, subst}
use Rattle.tier_chron.specs.declared.entries.Act.{Act}
use Rattle.tier_view.specs.Views.{GroupView}
use Rattle.tier_core.specs.Parts.{stores_of}
use Rattle.tier_core.specs.Steps.{IsStep}
use Rattle.tier_core.proofs.Entered.{at, enter_kept, enter_step}
use Rattle.tier_core.proofs.group.Group.enter_call.Goals as goal

pub invariant_of-self : goal.invariant_of-self
invariant_of-self g c =
    let in_ = c.self.inside in
    let begins : length c.acts.result.now ≡ length in_.history.log.acts = ap {A = List Act} length c.acts.ensures in
    enter_kept (stores_of (g.P.Store.state in_.cache) in_.base in_.cache_stopped in_.base_stopped in_.pending) in_.history.log in_.wires.traffic in_.start in_.agent in_.base
    c.args.line c.args.asked (length c.acts.result.now) in_.calls begins c.requires.lined c.self.invariant c.enter.result c.enter.new.self c.requires.lawful c.enter.ensures.entered c.enter.ensures.refused

pub returns-clause-step : goal.returns-clause-step
returns-clause-step g c =
    let in_ = c.self.inside in
    let begins : length c.acts.result.now ≡ length in_.history.log.acts = ap {A = List Act} length c.acts.ensures in
    let stores = stores_of (g.P.Store.state in_.cache) in_.base in_.cache_stopped in_.base_stopped in_.pending in
    subst (λ (v : GroupView). OnOk c.enter.result (IsStep (Some (record { line = c.args.line; asked = c.args.asked })) v (at stores in_.history.log in_.wires.traffic in_.start in_.agent in_.base c.args.line c.args.asked (length c.acts.result.now) in_.calls c.enter.new.self))) c.self.view_is
    (enter_step stores in_.history.log in_.wires.traffic in_.start in_.agent in_.base
    c.args.line c.args.asked (length c.acts.result.now) in_.calls begins c.requires.lined c.self.invariant c.enter.result c.enter.new.self c.enter.ensures.entered)
