use Rattle.obj_ops.proofs.Landing.{landed_at}
use Rattle.obj_ops.proofs.run.step.Goals as goal

pub returns-in-Some-clause-exact : goal.returns-in-Some-clause-exact
returns-in-Some-clause-exact c =
    landed_at c.args.ver c.args.op.now c.args.obj.now c.in-Some.obj c.change.new.obj
    c.change.result c.in-Some.is c.change.ensures.exact

pub returns-in-Some-obj-clause-exact : goal.returns-in-Some-obj-clause-exact
returns-in-Some-obj-clause-exact c =
    landed_at c.args.ver c.args.op.now c.args.obj.now c.in-Some-obj.obj c.change-in-Some-obj.new.obj
    c.change-in-Some-obj.result c.in-Some-obj.is c.change-in-Some-obj.ensures.exact
