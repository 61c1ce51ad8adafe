use Rattle.tier_view.proofs.AnsweringFaults.{entries_may_log}
use Rattle.tier_view.proofs.answered.entries_may_log.Goals as goal

pub returns : goal.returns
returns c = entries_may_log
