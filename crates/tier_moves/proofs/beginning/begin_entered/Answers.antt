use Rattle.tier_moves.proofs.OneSteps.{quiet_step_of}
use Rattle.tier_moves.proofs.beginning.begin_entered.Goals as goal

pub returns-then-worn-clause-step : goal.returns-then-worn-clause-step
returns-then-worn-clause-step g c =
    quiet_step_of c.args.g.now c.fail.new.g c.fail.ensures.step
