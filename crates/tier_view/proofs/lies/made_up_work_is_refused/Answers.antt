use Rattle.tier_view.proofs.Refusals.{made_up_work_is_refused}
use Rattle.tier_view.proofs.lies.made_up_work_is_refused.Goals as goal

pub returns : goal.returns
returns c = made_up_work_is_refused
