use Rattle.tier_runs.proofs.Growing.{runs_keep}
use Rattle.tier_runs.proofs.runs_keep.Goals as goal

pub returns : goal.returns
returns c = runs_keep
