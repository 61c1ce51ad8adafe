use Rattle.tier_view.proofs.LocalPuts.{promoting_here_keeps}
use Rattle.tier_view.proofs.locals.promoting_here_keeps.Goals as goal

pub returns : goal.returns
returns c = promoting_here_keeps
