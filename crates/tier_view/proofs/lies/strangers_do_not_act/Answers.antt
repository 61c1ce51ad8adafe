use Rattle.tier_view.proofs.Refusals.{strangers_do_not_act}
use Rattle.tier_view.proofs.lies.strangers_do_not_act.Goals as goal

pub returns : goal.returns
returns c = strangers_do_not_act
