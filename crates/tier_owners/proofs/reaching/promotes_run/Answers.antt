use Rattle.tier_owners.proofs.Courses.{promotes_run}
use Rattle.tier_owners.proofs.reaching.promotes_run.Goals as goal

pub returns : goal.returns
returns c = promotes_run
