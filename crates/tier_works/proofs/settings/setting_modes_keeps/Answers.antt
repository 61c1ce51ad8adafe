use Rattle.tier_works.proofs.AgentSteps.{setting_modes_keeps}
use Rattle.tier_works.proofs.settings.setting_modes_keeps.Goals as goal

pub returns : goal.returns
returns c = setting_modes_keeps
