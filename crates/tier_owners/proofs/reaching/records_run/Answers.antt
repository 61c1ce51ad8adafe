use Rattle.tier_owners.proofs.Courses.{records_run}
use Rattle.tier_owners.proofs.reaching.records_run.Goals as goal

pub returns : goal.returns
returns c = records_run
