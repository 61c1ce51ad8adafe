use Rattle.tier_view.proofs.StartingLosses.{answering_fences_keeps}
use Rattle.tier_view.proofs.starts.answering_fences_keeps.Goals as goal

pub returns : goal.returns
returns c = answering_fences_keeps
