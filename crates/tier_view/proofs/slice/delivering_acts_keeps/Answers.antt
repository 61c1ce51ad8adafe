use Rattle.tier_view.proofs.Delivered.{delivering_acts_keeps}
use Rattle.tier_view.proofs.slice.delivering_acts_keeps.Goals as goal

pub returns : goal.returns
returns c = delivering_acts_keeps
