use Rattle.tier_owners.proofs.Courses.{found_raises_run}
use Rattle.tier_owners.proofs.reaching.found_raises_run.Goals as goal

pub returns : goal.returns
returns c = found_raises_run
