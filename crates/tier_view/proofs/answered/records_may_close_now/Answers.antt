use Rattle.tier_view.proofs.AnsweringClosing.{records_may_close_now}
use Rattle.tier_view.proofs.answered.records_may_close_now.Goals as goal

pub returns : goal.returns
returns c = records_may_close_now
