use Rattle.std.proofs.Common.{◌≡◌}
use Rattle.std.specs.String.{string_bytes}
use Rattle.load_gen.specs.Script.{state_at, script_of}
use Rattle.load_gen.proofs.load_script.Given as goal

-- as many lines are there as places are done, and the state is that of the last
abbrev pub invariant-loop-place : goal.invariant-loop-place
invariant-loop-place l = record {
  script : string_bytes l.script ≡ script_of l.place l.fn.start;
  state : l.state ≡ state_at l.fn.start l.place;
}
