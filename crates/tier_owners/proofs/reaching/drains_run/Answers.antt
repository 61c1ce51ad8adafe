use Rattle.tier_owners.proofs.Lives.{drains_run}
use Rattle.tier_owners.proofs.reaching.drains_run.Goals as goal

pub returns : goal.returns
returns c = drains_run
