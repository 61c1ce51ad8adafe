use Rattle.std.proofs.Common.{◌≡◌, inl, inr, List, length, refl, ap, subst, ◌∙◌}
use Rattle.tier_chron.specs.Logs.{Log}
use Rattle.tier_chron.specs.declared.entries.Act.{Act}
use Rattle.tier_node.proofs.Faults.{ended_at, tells_at}
use Rattle.tier_node.specs.Tells.{Drops}
use Rattle.tier_view.specs.Answers.{KeepsQuietly}
use Rattle.tier_view.specs.Views.{GroupView}
use Rattle.tier_node.proofs.telling.tell_so.Goals as goal

pub fail_call-requires-clause-may : goal.fail_call-requires-clause-may
fail_call-requires-clause-may g c =
    let count : length c.acts.result.now ≡ length c.args.g.now.log.acts = ap {A = List Act} length (c.acts.ensures ∙ ap (λ (l : Log). l.acts) c.history.ensures) in
    (tells_at c.args.g.now c.args.turn c.args.answer (length c.acts.result.now) count c.rest.ensures.whole c.requires.may c.requires.so).may

pub fail_call-requires-clause-fault : goal.fail_call-requires-clause-fault
fail_call-requires-clause-fault g c =
    let count : length c.acts.result.now ≡ length c.args.g.now.log.acts = ap {A = List Act} length (c.acts.ensures ∙ ap (λ (l : Log). l.acts) c.history.ensures) in
    (tells_at c.args.g.now c.args.turn c.args.answer (length c.acts.result.now) count c.rest.ensures.whole c.requires.may c.requires.so).fault

pub fail_call-requires-clause-cause : goal.fail_call-requires-clause-cause
fail_call-requires-clause-cause g c =
    let count : length c.acts.result.now ≡ length c.args.g.now.log.acts = ap {A = List Act} length (c.acts.ensures ∙ ap (λ (l : Log). l.acts) c.history.ensures) in
    (tells_at c.args.g.now c.args.turn c.args.answer (length c.acts.result.now) count c.rest.ensures.whole c.requires.may c.requires.so).cause

pub returns-in-Ok-clause-told : goal.returns-in-Ok-clause-told
returns-in-Ok-clause-told g c =
    let count : length c.acts.result.now ≡ length c.args.g.now.log.acts = ap {A = List Act} length (c.acts.ensures ∙ ap (λ (l : Log). l.acts) c.history.ensures) in
    inl (refl, ended_at c.args.g.now c.fail_call.new.self c.args.turn c.args.answer (length c.acts.result.now) count c.in-Ok.ensures.ended)

pub returns-in-Err-clause-told : goal.returns-in-Err-clause-told
returns-in-Err-clause-told g c =
    inr (subst (λ (v : GroupView). Drops c.args.turn.call v c.drop_lacking.new.g c.drop_lacking.result) c.in-Err.ensures.refused c.drop_lacking.ensures.dropped)

pub returns-in-Err-clause-step : goal.returns-in-Err-clause-step
returns-in-Err-clause-step g c =
    subst (λ (v : GroupView). KeepsQuietly v c.drop_lacking.new.g) c.in-Err.ensures.refused c.drop_lacking.ensures.step
