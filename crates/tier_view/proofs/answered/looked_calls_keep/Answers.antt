use Rattle.tier_view.proofs.AnsweringReplies.{looked_calls_keep}
use Rattle.tier_view.proofs.answered.looked_calls_keep.Goals as goal

pub returns : goal.returns
returns c = looked_calls_keep
