use Rattle.tier_works.proofs.AgentSteps.{dropping_modes_keeps}
use Rattle.tier_works.proofs.settings.dropping_modes_keeps.Goals as goal

pub returns : goal.returns
returns c = dropping_modes_keeps
