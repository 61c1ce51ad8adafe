use Rattle.tier_owners.proofs.Courses.{reads_run}
use Rattle.tier_owners.proofs.reaching.reads_run.Goals as goal

pub returns : goal.returns
returns c = reads_run
