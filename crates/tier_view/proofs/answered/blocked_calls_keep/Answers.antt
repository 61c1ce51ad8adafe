use Rattle.tier_view.proofs.AnsweringBlocked.{blocked_calls_keep}
use Rattle.tier_view.proofs.answered.blocked_calls_keep.Goals as goal

pub returns : goal.returns
returns c = blocked_calls_keep
