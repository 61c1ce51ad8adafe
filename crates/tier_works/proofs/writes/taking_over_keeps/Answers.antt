use Rattle.tier_works.proofs.WriteSteps.{taking_over_keeps}
use Rattle.tier_works.proofs.writes.taking_over_keeps.Goals as goal

pub returns : goal.returns
returns c = taking_over_keeps
