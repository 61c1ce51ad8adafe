use Rattle.tier_view.proofs.JoiningCalls.{opening_leads_step}
use Rattle.tier_view.proofs.joining.opening_leads_step.Goals as goal

pub returns : goal.returns
returns c = opening_leads_step
