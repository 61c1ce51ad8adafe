use Rattle.tier_view.proofs.AnsweringActs.{own_acts_stand}
use Rattle.tier_view.proofs.answered.own_acts_stand.Goals as goal

pub returns : goal.returns
returns c = own_acts_stand
