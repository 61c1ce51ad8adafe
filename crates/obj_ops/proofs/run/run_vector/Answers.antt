use Rattle.obj_ops.proofs.Runs.{vector_rest}
use Rattle.obj_ops.proofs.run.run_vector.Goals as goal

pub run_copy-requires-clause-steps : goal.run_copy-requires-clause-steps
run_copy-requires-clause-steps c =
    vector_rest c.in-Ok.from c.args.vector.now c.ops-ops.result.now _ c.ops-ops.ensures.value
    c.split_at.ensures.back c.ops-ops.ensures.lawful c.requires
