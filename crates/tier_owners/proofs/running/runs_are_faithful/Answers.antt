use Rattle.tier_owners.proofs.Faithful.{runs_faithful}
use Rattle.tier_owners.proofs.running.runs_are_faithful.Goals as goal

pub returns : goal.returns
returns c = runs_faithful
