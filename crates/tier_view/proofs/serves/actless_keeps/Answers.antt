use Rattle.tier_view.proofs.Serving.{actless_keeps}
use Rattle.tier_view.proofs.serves.actless_keeps.Goals as goal

pub returns : goal.returns
returns c = actless_keeps
