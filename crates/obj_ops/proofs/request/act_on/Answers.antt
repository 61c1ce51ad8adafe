use Rattle.obj_ops.proofs.Runs.{few_ops}
use Rattle.obj_ops.proofs.Limits.{leaves_lawful}
use Rattle.obj_ops.proofs.request.act_on.Goals as goal

pub returns-clause-lawful : goal.returns-clause-lawful
returns-clause-lawful c =
    leaves_lawful c.args.state.now c.args.req.now c.requires.client_low c.requires.client_high
    (few_ops c.args.req.now.vector c.ops-ops.ensures.lawful)
