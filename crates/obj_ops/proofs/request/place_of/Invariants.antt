use Rattle.std.proofs.Common.{◌≡◌, drop}
use Rattle.obj_ops.specs.Steps.{place_from}
use Rattle.obj_ops.proofs.request.place_of.Given as goal

-- the place among those that are left is the place among all
abbrev pub invariant-loop-kept : goal.invariant-loop-kept
invariant-loop-kept l = record {
  place : l.at ≡ l.kept-index;
  same : place_from l.client l.at (drop l.kept-index l.list) ≡ place_from l.client 0 l.list;
}
