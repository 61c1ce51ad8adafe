use Rattle.tier_view.proofs.AnsweringClosing.{unsent_may_close_now}
use Rattle.tier_view.proofs.answered.unsent_may_close_now.Goals as goal

pub returns : goal.returns
returns c = unsent_may_close_now
