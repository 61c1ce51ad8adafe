use Rattle.tier_works.proofs.JoinSteps.{new_calls_are_free}
use Rattle.tier_works.proofs.joins.new_calls_are_free.Goals as goal

pub returns : goal.returns
returns c = new_calls_are_free
