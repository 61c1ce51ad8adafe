use Rattle.tier_serve.proofs.UnreadSteps.{serving_unread}
use Rattle.tier_serve.proofs.unread.serving_unread.Goals as goal

pub returns : goal.returns
returns c = serving_unread
