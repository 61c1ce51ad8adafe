use Rattle.tier_view.proofs.LocalActs.{acting_here_keeps}
use Rattle.tier_view.proofs.locals.acting_here_keeps.Goals as goal

pub returns : goal.returns
returns c = acting_here_keeps
