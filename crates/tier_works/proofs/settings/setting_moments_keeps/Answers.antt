use Rattle.tier_works.proofs.AgentSteps.{setting_moments_keeps}
use Rattle.tier_works.proofs.settings.setting_moments_keeps.Goals as goal

pub returns : goal.returns
returns c = setting_moments_keeps
