use Rattle.std.proofs.Common.{◌≡◌, ◌+◌, drop}
use Rattle.obj_ops.specs.Ops.{run_from}
use Rattle.obj_ops.specs.Acts.{ran_of}
use Rattle.obj_ops.proofs.run.run_copy.Given as goal

-- what is left, from the object that stands, gives what all give
abbrev pub invariant-loop-op : goal.invariant-loop-op
invariant-loop-op l = record {
  place : l.at ≡ l.from + l.op-index;
  same : ran_of (run_from l.at l.ver (drop l.op-index l.ops) l.copy)
      ≡ ran_of (run_from l.from l.ver l.ops l.obj);
}
