use Rattle.tier_view.proofs.Serving.{leaving_base_keeps}
use Rattle.tier_view.proofs.serves.leaving_base_keeps.Goals as goal

pub returns : goal.returns
returns c = leaving_base_keeps
