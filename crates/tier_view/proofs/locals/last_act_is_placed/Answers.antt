use Rattle.tier_view.proofs.LocalFacts.{last_act_is_placed}
use Rattle.tier_view.proofs.locals.last_act_is_placed.Goals as goal

pub returns : goal.returns
returns c = last_act_is_placed
