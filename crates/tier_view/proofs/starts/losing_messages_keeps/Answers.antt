use Rattle.tier_view.proofs.StartingLosses.{losing_messages_keeps}
use Rattle.tier_view.proofs.starts.losing_messages_keeps.Goals as goal

pub returns : goal.returns
returns c = losing_messages_keeps
