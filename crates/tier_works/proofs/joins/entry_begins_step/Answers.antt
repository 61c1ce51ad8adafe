use Rattle.tier_works.proofs.JoinSteps.{entry_begins_step}
use Rattle.tier_works.proofs.joins.entry_begins_step.Goals as goal

pub returns : goal.returns
returns c = entry_begins_step
