use Rattle.std.proofs.Common.{◌≡◌, List, length, Some, ap, ◌∙◌}
use Rattle.tier_chron.specs.Logs.{Log}
use Rattle.tier_chron.specs.declared.asked.Asked.TheVariants.{Start}
use Rattle.tier_chron.specs.declared.entries.Act.{Act}
use Rattle.tier_node.proofs.Joined.{run_behind}
use Rattle.tier_node.proofs.Single.{entering, quietly}
use Rattle.tier_node.proofs.Turns.{entered_may}
use Rattle.tier_node.proofs.starting.log_answer.Goals as goal

pub tell-requires-clause-may : goal.tell-requires-clause-may
tell-requires-clause-may g c =
    let count : length c.acts.result.now ≡ length c.args.g.now.log.acts =
    ap {A = List Act} length (c.acts.ensures ∙ ap (λ (l : Log). l.acts) c.history.ensures) in
    entered_may c.args.line c.in-Ok.call (length c.acts.result.now) c.args.g.now
    c.in-Ok.ensures.number count c.enter_call.new.self c.in-Ok.ensures.entered c.args.answer
    c.rest.ensures.whole c.requires.kind

pub returns-in-Ok-clause-run : goal.returns-in-Ok-clause-run
returns-in-Ok-clause-run g c =
    run_behind c.args.g.now c.enter_call.new.self c.tell.new.g
    (entering (Some (record { line = Some c.args.line; asked = Start })) c.args.g.now
    c.enter_call.new.self c.in-Ok.ensures.step)
    (quietly c.enter_call.new.self c.tell.new.g c.tell.ensures.step)
