use Rattle.std.proofs.Common.{◌≤◌, length, drop}
use Rattle.tier_chron.specs.Shapes.{HasNoAct}
use Rattle.tier_core.proofs.lands.own_act.Given as goal

abbrev pub invariant-loop-place : goal.invariant-loop-place
invariant-loop-place l = record {
  within : l.place ≤ length l.acts;
  none : HasNoAct l.call (drop l.place l.acts);
}

abbrev pub decreases-loop-place : goal.decreases-loop-place
decreases-loop-place l = l.place
