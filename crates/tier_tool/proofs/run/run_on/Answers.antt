use Rattle.tier_tool.proofs.Runs.{opened_runs, unopened_runs}
use Rattle.tier_tool.proofs.run.run_on.Goals as goal

pub returns-in-Ok-clause-ends : goal.returns-in-Ok-clause-ends
returns-in-Ok-clause-ends g c =
    opened_runs _ _ _ c.in-Ok.pool c.tell_lines-status.new.pool _ c.in-Ok.ensures.opened
    c.in-Ok.ensures.stops c.tell_lines-status.ensures.same c.tell_lines-status.ensures.goes_on
    c.into_disk.ensures.holds c.in-Ok.ensures.later c.into_disk.ensures.faults
    c.tell_lines-status.ensures.told

pub returns-in-Err-clause-ends : goal.returns-in-Err-clause-ends
returns-in-Err-clause-ends g c =
    unopened_runs _ _ _ _ _ c.in-Err.ensures.refused c.in-Err.ensures.kept
    c.in-Err.ensures.stops_refused c.tell_unopened-status.ensures.told
