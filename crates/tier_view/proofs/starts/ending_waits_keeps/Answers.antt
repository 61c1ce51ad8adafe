use Rattle.tier_view.proofs.StartingLosses.{ending_waits_keeps}
use Rattle.tier_view.proofs.starts.ending_waits_keeps.Goals as goal

pub returns : goal.returns
returns c = ending_waits_keeps
