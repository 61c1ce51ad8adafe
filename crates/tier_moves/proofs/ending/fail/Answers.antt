use Rattle.std.proofs.Common.{inr, subst}
use Rattle.tier_moves.proofs.FaultsTold.{fault_at, fault_ends}
use Rattle.tier_moves.specs.Endings.{Drops}
use Rattle.tier_moves.specs.declared.begun.Begun.TheVariants.{NoMemory}
use Rattle.tier_view.specs.Answers.{KeepsQuietly}
use Rattle.tier_view.specs.Views.{GroupView}
use Rattle.tier_moves.proofs.ending.fail.Goals as goal

pub fail_call-requires-clause-may : goal.fail_call-requires-clause-may
fail_call-requires-clause-may g c =
    (fault_at c.args.g.now c.args.turn c.args.way c.args.answer c.acts_of-acts.result
    c.failed_here-logged.result c.rest.ensures.whole c.requires c.acts_of-acts.ensures
    c.failed_here-logged.ensures).may

pub fail_call-requires-clause-fault : goal.fail_call-requires-clause-fault
fail_call-requires-clause-fault g c =
    (fault_at c.args.g.now c.args.turn c.args.way c.args.answer c.acts_of-acts.result
    c.failed_here-logged.result c.rest.ensures.whole c.requires c.acts_of-acts.ensures
    c.failed_here-logged.ensures).fault

pub fail_call-requires-clause-cause : goal.fail_call-requires-clause-cause
fail_call-requires-clause-cause g c =
    (fault_at c.args.g.now c.args.turn c.args.way c.args.answer c.acts_of-acts.result
    c.failed_here-logged.result c.rest.ensures.whole c.requires c.acts_of-acts.ensures
    c.failed_here-logged.ensures).cause

pub returns-in-Ok-clause-failed : goal.returns-in-Ok-clause-failed
returns-in-Ok-clause-failed g c =
    fault_ends c.args.g.now c.fail_call.new.self c.args.turn c.args.way c.args.answer
    c.acts_of-acts.result c.failed_here-logged.result c.acts_of-acts.ensures
    c.failed_here-logged.ensures c.in-Ok.ensures.ended

pub returns-in-Err-clause-failed : goal.returns-in-Err-clause-failed
returns-in-Err-clause-failed g c =
    inr (subst (λ (v : GroupView). Drops c.args.turn NoMemory v c.drop_as.new.g c.drop_as.result)
    c.in-Err.ensures.refused c.drop_as.ensures.dropped)

pub returns-in-Err-clause-step : goal.returns-in-Err-clause-step
returns-in-Err-clause-step g c =
    subst (λ (v : GroupView). KeepsQuietly v c.drop_as.new.g) c.in-Err.ensures.refused
    c.drop_as.ensures.step
