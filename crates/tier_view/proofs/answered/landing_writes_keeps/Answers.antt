use Rattle.tier_view.proofs.AnsweringReplies.{landing_writes_keeps}
use Rattle.tier_view.proofs.answered.landing_writes_keeps.Goals as goal

pub returns : goal.returns
returns c = landing_writes_keeps
