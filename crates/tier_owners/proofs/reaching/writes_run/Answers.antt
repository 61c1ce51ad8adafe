use Rattle.tier_owners.proofs.Guides.{writes_run}
use Rattle.tier_owners.proofs.reaching.writes_run.Goals as goal

pub returns : goal.returns
returns c = writes_run
