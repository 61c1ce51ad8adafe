use Rattle.tier_tool.proofs.Lawful.{lawful_lines}
use Rattle.tier_tool.proofs.run.run_script.Goals as goal

pub run_tasks-requires-clause-lawful : goal.run_tasks-requires-clause-lawful
run_tasks-requires-clause-lawful g c κs within =
    lawful_lines c.args.script.now c.in-Ok.lines.items c.in-Ok.ensures
