use Rattle.tier_view.proofs.StartingLosses.{losing_replies_keeps}
use Rattle.tier_view.proofs.starts.losing_replies_keeps.Goals as goal

pub returns : goal.returns
returns c = losing_replies_keeps
