use Rattle.tier_serve.proofs.UnreadSteps.{serving_strangers}
use Rattle.tier_serve.proofs.unread.serving_strangers.Goals as goal

pub returns : goal.returns
returns c = serving_strangers
