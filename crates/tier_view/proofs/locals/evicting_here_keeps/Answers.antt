use Rattle.tier_view.proofs.LocalPuts.{evicting_here_keeps}
use Rattle.tier_view.proofs.locals.evicting_here_keeps.Goals as goal

pub returns : goal.returns
returns c = evicting_here_keeps
