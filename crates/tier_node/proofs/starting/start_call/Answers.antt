use Rattle.std.proofs.Common.{List, Some, sym, ap, ◌∙◌}
use Rattle.tier_node.proofs.Joined.{run_behind}
use Rattle.tier_node.proofs.Single.{quietly, single}
use Rattle.tier_node.proofs.StartFaults.{failed_so, same_calls}
use Rattle.tier_node.proofs.Turns.{still_turn}
use Rattle.tier_node.specs.Starting.{is_brief_in}
use Rattle.tier_stop.specs.Needs.{start_needed}
use Rattle.tier_view.specs.Calls.{entry_of}
use Rattle.tier_view.specs.declared.parts.Entry.{Entry}
use Rattle.tier_node.proofs.starting.start_call.Goals as goal

pub fail_call-requires-clause-turn : goal.fail_call-requires-clause-turn
fail_call-requires-clause-turn g c =
    still_turn c.args.g.now c.start_step.new.group c.args.turn
    (same_calls (start_needed c.args.g.now) c.args.line (Some c.args.turn.call) c.in-Failed.fault
    c.args.g.now c.start_step.new.group c.in-Failed.ensures) c.requires.turn

pub fail_call-requires-clause-brief : goal.fail_call-requires-clause-brief
fail_call-requires-clause-brief g c =
    c.requires.brief
    ∙ ap (λ (es : List Entry). is_brief_in (entry_of es c.args.turn.call))
    (sym (same_calls (start_needed c.args.g.now) c.args.line (Some c.args.turn.call)
    c.in-Failed.fault c.args.g.now c.start_step.new.group c.in-Failed.ensures))

pub fail_call-requires-clause-so : goal.fail_call-requires-clause-so
fail_call-requires-clause-so g c =
    failed_so (start_needed c.args.g.now) c.args.line (Some c.args.turn.call) c.in-Failed.fault
    c.args.g.now c.start_step.new.group c.in-Failed.ensures c.rest.ensures.whole

pub returns-in-Failed-clause-run : goal.returns-in-Failed-clause-run
returns-in-Failed-clause-run g c =
    run_behind c.args.g.now c.start_step.new.group c.fail_call.new.g
    (single c.args.g.now c.start_step.new.group c.start_step.ensures.step)
    (quietly c.start_step.new.group c.fail_call.new.g c.fail_call.ensures.step)

pub returns-in-NoMemory-clause-run : goal.returns-in-NoMemory-clause-run
returns-in-NoMemory-clause-run g c =
    run_behind c.args.g.now c.start_step.new.group c.drop_lacking.new.g
    (single c.args.g.now c.start_step.new.group c.start_step.ensures.step)
    (quietly c.start_step.new.group c.drop_lacking.new.g c.drop_lacking.ensures.step)

pub returns-in-Ready-clause-run : goal.returns-in-Ready-clause-run
returns-in-Ready-clause-run g c =
    single c.args.g.now c.start_step.new.group c.start_step.ensures.step

pub returns-in-Going-clause-run : goal.returns-in-Going-clause-run
returns-in-Going-clause-run g c =
    single c.args.g.now c.start_step.new.group c.start_step.ensures.step

pub returns-in-Sent-clause-run : goal.returns-in-Sent-clause-run
returns-in-Sent-clause-run g c =
    single c.args.g.now c.start_step.new.group c.start_step.ensures.step
