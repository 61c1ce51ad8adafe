use Rattle.tier_owners.proofs.Guides.{starts_run}
use Rattle.tier_owners.proofs.reaching.starts_run.Goals as goal

pub returns : goal.returns
returns c = starts_run
