use Rattle.tier_view.proofs.StartingFences.{hearing_fenced_keeps}
use Rattle.tier_view.proofs.starts.hearing_fenced_keeps.Goals as goal

pub returns : goal.returns
returns c = hearing_fenced_keeps
