-- What a line is answered.
use Rattle.std.specs.Prelude.{Bool, true, false}
use Rattle.obj_model.specs.declared.reply.Reply.{Reply}
use Rattle.obj_model.specs.declared.reply.Reply.TheVariants as reply
use Rattle.obj_ops.specs.declared.request.Acted.{Acted}
use Rattle.obj_ops.specs.declared.request.Acted.TheVariants as acted
use Rattle.obj_ops.specs.declared.reading.Looked.{Looked}
use Rattle.obj_ops.specs.declared.reading.Looked.TheVariants as looked
use Rattle.tier_chron.specs.declared.answer.Answer.{Answer}
use Rattle.tier_chron.specs.declared.answer.Answer.TheVariants.{Done, Refused, Values, Stale, Worn}

-- the answer that gives a reply, which may be one that was kept
abbrev pub replied : Reply → Bool → Answer
replied (reply.Done ver) kept = Done ver kept
replied (reply.Refused at why ver) kept = Refused at why ver kept

-- the answer to a write request
abbrev pub of_request : Acted → Answer
of_request (acted.Fresh state reply) = replied reply false
of_request (acted.Again reply) = replied reply true
of_request (acted.Stale kept) = Stale kept
of_request (acted.Worn limit) = Worn limit

-- the answer to a reading
abbrev pub of_reading : Looked → Answer
of_reading (looked.Values ver outs) = Values ver outs
of_reading (looked.Refused at why ver) = Refused at why ver false
