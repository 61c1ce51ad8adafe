use Rattle.tier_owners.proofs.Closing.{answered_here_closes}
use Rattle.tier_owners.proofs.owning.answered_here_may_close.Goals as goal

pub returns : goal.returns
returns c = answered_here_closes
