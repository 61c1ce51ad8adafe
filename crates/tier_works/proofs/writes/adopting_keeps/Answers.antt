use Rattle.tier_works.proofs.WriteSteps.{adopting_keeps}
use Rattle.tier_works.proofs.writes.adopting_keeps.Goals as goal

pub returns : goal.returns
returns c = adopting_keeps
