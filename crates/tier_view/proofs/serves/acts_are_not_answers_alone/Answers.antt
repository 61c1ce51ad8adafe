use Rattle.tier_view.proofs.ServingRest.{acts_are_not_answers_alone}
use Rattle.tier_view.proofs.serves.acts_are_not_answers_alone.Goals as goal

pub returns : goal.returns
returns c = acts_are_not_answers_alone
