use Rattle.tier_serve.proofs.UnreadSteps.{serving_fences}
use Rattle.tier_serve.proofs.unread.serving_fences.Goals as goal

pub returns : goal.returns
returns c = serving_fences
