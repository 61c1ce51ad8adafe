use Rattle.tier_view.proofs.LocalPuts.{cleaning_here_keeps}
use Rattle.tier_view.proofs.locals.cleaning_here_keeps.Goals as goal

pub returns : goal.returns
returns c = cleaning_here_keeps
