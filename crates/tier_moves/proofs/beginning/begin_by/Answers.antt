use Rattle.tier_moves.proofs.OneSteps.{quiet_step_of}
use Rattle.tier_moves.proofs.beginning.begin_by.Goals as goal

pub returns-in-Left-clause-step : goal.returns-in-Left-clause-step
returns-in-Left-clause-step g c =
    quiet_step_of c.args.g.now c.drop_as.new.g c.drop_as.ensures.step

pub returns-in-Behind-clause-step : goal.returns-in-Behind-clause-step
returns-in-Behind-clause-step g c =
    quiet_step_of c.args.g.now c.drop_as-in-Behind.new.g c.drop_as-in-Behind.ensures.step
