use Rattle.tier_works.proofs.AgentSteps.{moving_cursors_keeps}
use Rattle.tier_works.proofs.settings.moving_cursors_keeps.Goals as goal

pub returns : goal.returns
returns c = moving_cursors_keeps
