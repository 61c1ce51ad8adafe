use Rattle.tier_join.proofs.Ages.{old_answers_stay}
use Rattle.tier_join.proofs.rising.old_answers_stay.Goals as goal

pub returns : goal.returns
returns c = old_answers_stay
