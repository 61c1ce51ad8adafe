use Rattle.tier_works.proofs.WriteSteps.{writes_fly_keeps}
use Rattle.tier_works.proofs.writes.writes_fly_keeps.Goals as goal

pub returns : goal.returns
returns c = writes_fly_keeps
