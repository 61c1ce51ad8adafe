use Rattle.tier_view.proofs.AnsweringActs.{numbers_find_acts}
use Rattle.tier_view.proofs.answered.numbers_find_acts.Goals as goal

pub returns : goal.returns
returns c = numbers_find_acts
