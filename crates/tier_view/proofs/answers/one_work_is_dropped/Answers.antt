use Rattle.tier_view.proofs.AnsweringDrops.{one_work_is_dropped}
use Rattle.tier_view.proofs.answers.one_work_is_dropped.Goals as goal

pub returns : goal.returns
returns c = one_work_is_dropped
