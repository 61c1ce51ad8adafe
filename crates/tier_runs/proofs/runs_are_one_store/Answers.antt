use Rattle.tier_runs.proofs.Standing.{runs_are_one_store}
use Rattle.tier_runs.proofs.runs_are_one_store.Goals as goal

pub returns : goal.returns
returns c = runs_are_one_store
