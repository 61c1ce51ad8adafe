use Rattle.tier_works.proofs.AgentSteps.{following_modes_keeps}
use Rattle.tier_works.proofs.settings.following_modes_keeps.Goals as goal

pub returns : goal.returns
returns c = following_modes_keeps
