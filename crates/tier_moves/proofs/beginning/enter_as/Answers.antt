use Rattle.std.proofs.Common.{◌≡◌, Some, inr, refl, subst, sym, ap, ◌∙◌}
use Rattle.tier_chron.specs.declared.asked.Asked.{Asked}
use Rattle.tier_core.specs.Keeps.{MayBeAsked}
use Rattle.tier_moves.proofs.NewCalls.{entered_call, entered_so, enters_by}
use Rattle.tier_moves.proofs.OneSteps.{entered_step, resting_step}
use Rattle.tier_moves.specs.Begins.{IsStepOf, entered}
use Rattle.tier_view.specs.Steps.{opened_call}
use Rattle.tier_view.specs.Views.{GroupView}
use Rattle.tier_moves.proofs.beginning.enter_as.Goals as goal

pub enter_call-requires-clause-lawful : goal.enter_call-requires-clause-lawful
enter_call-requires-clause-lawful g c =
    subst (λ (a : Asked). MayBeAsked a) (sym c.requires.same) c.requires.lawful

pub begin_entered-requires : goal.begin_entered-requires
begin_entered-requires g c =
    let is : c.enter_call.new.self ≡ entered c.args.line c.args.ask.now c.args.g.now =
    c.in-Ok.ensures.entered
    ∙ ap (λ (a : Asked). opened_call (Some c.args.line) a c.args.g.now) c.requires.same in
    entered_so c.args.line c.args.ask.now c.args.g.now c.enter_call.new.self c.in-Ok.call
    c.acts_of-begin.result c.rest.ensures.whole c.requires.ready c.requires.few is
    c.in-Ok.ensures.number c.acts_of-begin.ensures

pub returns-in-Ok-clause-enters : goal.returns-in-Ok-clause-enters
returns-in-Ok-clause-enters g c =
    let is : c.enter_call.new.self ≡ entered c.args.line c.args.ask.now c.args.g.now =
    c.in-Ok.ensures.entered
    ∙ ap (λ (a : Asked). opened_call (Some c.args.line) a c.args.g.now) c.requires.same in
    enters_by c.args.line c.args.ask.now c.args.g.now c.begin_entered.new.g
    c.begin_entered.result c.is_worn-worn.result c.is_worn-worn.ensures
    (entered_call c.args.line c.args.ask.now c.args.g.now c.enter_call.new.self
    c.begin_entered.new.g c.begin_entered.result c.is_worn-worn.result c.in-Ok.call
    c.acts_of-begin.result is c.in-Ok.ensures.number c.acts_of-begin.ensures
    c.begin_entered.ensures.begun)

pub returns-in-Ok-clause-step : goal.returns-in-Ok-clause-step
returns-in-Ok-clause-step g c =
    let is : c.enter_call.new.self ≡ entered c.args.line c.args.ask.now c.args.g.now =
    c.in-Ok.ensures.entered
    ∙ ap (λ (a : Asked). opened_call (Some c.args.line) a c.args.g.now) c.requires.same in
    entered_step c.args.line c.args.ask.now c.args.g.now c.begin_entered.new.g
    c.rest.ensures.whole
    (subst (λ (v : GroupView). IsStepOf v c.begin_entered.new.g) is c.begin_entered.ensures.step)

pub returns-in-Err-clause-enters : goal.returns-in-Err-clause-enters
returns-in-Err-clause-enters g c = inr (refl, c.in-Err.ensures.refused)

pub returns-in-Err-clause-step : goal.returns-in-Err-clause-step
returns-in-Err-clause-step g c =
    resting_step c.args.g.now c.enter_call.new.self c.rest.ensures.step c.in-Err.ensures.refused
