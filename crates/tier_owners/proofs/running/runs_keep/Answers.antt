use Rattle.tier_owners.proofs.Keeping.{runs_keep}
use Rattle.tier_owners.proofs.running.runs_keep.Goals as goal

pub returns : goal.returns
returns c = runs_keep
