use Rattle.tier_view.proofs.AnsweringClosing.{readers_may_close_now}
use Rattle.tier_view.proofs.answered.readers_may_close_now.Goals as goal

pub returns : goal.returns
returns c = readers_may_close_now
