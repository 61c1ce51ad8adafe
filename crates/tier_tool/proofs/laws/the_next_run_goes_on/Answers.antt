use Rattle.tier_tool.proofs.Next.{next_run}
use Rattle.tier_tool.proofs.laws.the_next_run_goes_on.Goals as goal

pub returns : goal.returns
returns c = next_run
