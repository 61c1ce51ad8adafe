use Rattle.std.proofs.Common.{◌+◌, ap}
use Rattle.tier_tool.proofs.LineAnswer.{answer_said, fault_said}
use Rattle.tier_tool.proofs.saying.say_line.Goals as goal

pub returns-in-Ok-clause-said : goal.returns-in-Ok-clause-said
returns-in-Ok-clause-said g c =
    answer_said c.args.numbered.now _ _ _ _ c.args.pool.now c.answer-ended.new.pool _ _ _ _ _
    c.clear.ensures (ap (λ k. c.args.acts.now + k) c.acts_more.ensures) c.in-Ok.ensures.ended
    c.in-Ok.ensures.uses c.in_words.ensures c.put_call.ensures

pub returns-in-Err-clause-said : goal.returns-in-Err-clause-said
returns-in-Err-clause-said g c =
    fault_said c.args.numbered.now _ _ c.args.pool.now c.answer-ended.new.pool _ _ _
    c.clear.ensures c.requires.live c.in-Err.ensures.ended c.in-Err.ensures.uses
    c.say_fault.ensures
