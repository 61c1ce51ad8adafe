use Rattle.tier_owners.proofs.Lives.{fills_run}
use Rattle.tier_owners.proofs.reaching.fills_run.Goals as goal

pub returns : goal.returns
returns c = fills_run
