use Rattle.obj_ops.proofs.Landing.{landed, made_done, made_refused}
use Rattle.obj_ops.proofs.run.make.Goals as goal

pub returns-in-Some-clause-exact : goal.returns-in-Some-clause-exact
returns-in-Some-clause-exact c =
    landed c.args.op.now c.args.obj.now c.in-Some.obj c.change.new.obj c.change.result c.in-Some.is
    c.change.ensures.exact

pub returns-in-Ok-clause-exact : goal.returns-in-Ok-clause-exact
returns-in-Ok-clause-exact c =
    made_done c.args.op.now c.args.obj.now c.empty-made.result c.change-in-None.new.obj
    c.requires.makes c.in-None.is c.empty-made.ensures
    (rw c.in-Ok.is at c.in_ok-change-in-None.ensures.exact)

pub returns-in-Err-clause-exact : goal.returns-in-Err-clause-exact
returns-in-Err-clause-exact c =
    made_refused c.args.op.now c.args.obj.now c.empty-made.result c.change-in-None.new.obj
    c.in-Err.why c.requires.makes c.in-None.is c.empty-made.ensures
    (rw c.in-Err.is at c.in_ok-change-in-None.ensures.exact)
