use Rattle.tier_view.proofs.AnsweringReplies.{landed_calls_keep}
use Rattle.tier_view.proofs.answered.landed_calls_keep.Goals as goal

pub returns : goal.returns
returns c = landed_calls_keep
