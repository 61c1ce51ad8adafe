use Rattle.tier_view.proofs.LocalPromotes.{promoting_acts_here_keeps}
use Rattle.tier_view.proofs.locals.promoting_acts_here_keeps.Goals as goal

pub returns : goal.returns
returns c = promoting_acts_here_keeps
