use Rattle.tier_owners.proofs.Lives.{empty_pairs_run}
use Rattle.tier_owners.proofs.reaching.empty_pairs_run.Goals as goal

pub returns : goal.returns
returns c = empty_pairs_run
