use Rattle.std.proofs.Common.{inr, refl}
use Rattle.tier_moves.proofs.OneSteps.{resting_step}
use Rattle.tier_moves.proofs.beginning.enter.Goals as goal

pub returns-in-Err-clause-enters : goal.returns-in-Err-clause-enters
returns-in-Err-clause-enters g c = inr (refl, refl)

pub returns-in-Err-clause-step : goal.returns-in-Err-clause-step
returns-in-Err-clause-step g c =
    resting_step c.args.g.now c.args.g.now c.rest.ensures.step refl
