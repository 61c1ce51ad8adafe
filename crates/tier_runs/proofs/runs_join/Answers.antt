use Rattle.tier_runs.proofs.Growing.{runs_join}
use Rattle.tier_runs.proofs.runs_join.Goals as goal

pub returns : goal.returns
returns c = runs_join
