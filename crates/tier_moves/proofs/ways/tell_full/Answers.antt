use Rattle.std.proofs.Common.{inr, subst, sym}
use Rattle.tier_core.specs.Ends.{MayAnswer}
use Rattle.tier_moves.proofs.FullTold.{full_ends, may_tell, told_is}
use Rattle.tier_moves.specs.Endings.{Drops}
use Rattle.tier_moves.specs.declared.begun.Begun.TheVariants.{NoMemory}
use Rattle.tier_view.specs.Answers.{KeepsQuietly}
use Rattle.tier_view.specs.Views.{GroupView}
use Rattle.tier_moves.proofs.ways.tell_full.Goals as goal

pub answer_call-requires : goal.answer_call-requires
answer_call-requires g c =
    subst (MayAnswer c.args.g.now)
    (sym (told_is c.args.g.now c.args.turn c.acts_of-acts.result c.modes.result.now
    c.failed_here.result c.acts_of-acts.ensures c.modes.ensures c.failed_here.ensures))
    (may_tell c.args.g.now c.args.turn c.rest.ensures.whole c.requires)

pub returns-in-Ok-clause-full : goal.returns-in-Ok-clause-full
returns-in-Ok-clause-full g c =
    full_ends c.args.g.now c.answer_call.new.self c.args.turn c.failed_here.result
    (told_is c.args.g.now c.args.turn c.acts_of-acts.result c.modes.result.now
    c.failed_here.result c.acts_of-acts.ensures c.modes.ensures c.failed_here.ensures)
    c.in-Ok.ensures.ended

pub returns-in-Err-clause-full : goal.returns-in-Err-clause-full
returns-in-Err-clause-full g c =
    inr (subst (λ (v : GroupView). Drops c.args.turn NoMemory v c.drop_as.new.g c.drop_as.result)
    c.in-Err.ensures.refused c.drop_as.ensures.dropped)

pub returns-in-Err-clause-step : goal.returns-in-Err-clause-step
returns-in-Err-clause-step g c =
    subst (λ (v : GroupView). KeepsQuietly v c.drop_as.new.g) c.in-Err.ensures.refused
    c.drop_as.ensures.step
