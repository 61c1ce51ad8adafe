use Rattle.tier_view.proofs.AnsweringBlocked.{new_calls_have_no_work}
use Rattle.tier_view.proofs.answered.new_calls_have_no_work.Goals as goal

pub returns : goal.returns
returns c = new_calls_have_no_work
