use Rattle.tier_view.proofs.Settling.{settling_acts_keeps}
use Rattle.tier_view.proofs.slice.settling_acts_keeps.Goals as goal

pub returns : goal.returns
returns c = settling_acts_keeps
