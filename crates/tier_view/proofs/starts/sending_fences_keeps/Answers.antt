use Rattle.tier_view.proofs.StartingFences.{sending_fences_keeps}
use Rattle.tier_view.proofs.starts.sending_fences_keeps.Goals as goal

pub returns : goal.returns
returns c = sending_fences_keeps
