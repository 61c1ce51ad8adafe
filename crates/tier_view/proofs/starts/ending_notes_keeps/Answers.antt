use Rattle.tier_view.proofs.StartingLosses.{ending_notes_keeps}
use Rattle.tier_view.proofs.starts.ending_notes_keeps.Goals as goal

pub returns : goal.returns
returns c = ending_notes_keeps
