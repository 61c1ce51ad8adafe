use Rattle.tier_view.proofs.AnsweringReplies.{landed_acts_fit}
use Rattle.tier_view.proofs.answered.landed_acts_fit.Goals as goal

pub returns : goal.returns
returns c = landed_acts_fit
