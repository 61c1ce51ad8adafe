use Rattle.tier_view.proofs.Answering.{quiet_leads_step}
use Rattle.tier_view.proofs.answers.quiet_leads_step.Goals as goal

pub returns : goal.returns
returns c = quiet_leads_step
