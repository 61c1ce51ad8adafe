use Rattle.std.proofs.Common.{refl}
use Rattle.tier_moves.proofs.NewCalls.{few_answers}
use Rattle.tier_moves.proofs.OneSteps.{resting_step}
use Rattle.tier_moves.proofs.beginning.client_begin.Goals as goal

pub enter-requires-clause-few : goal.enter-requires-clause-few
enter-requires-clause-few g c = few_answers c.args.g.now c.in-None.ensures

pub returns-then-not-is_lawful-clause-step : goal.returns-then-not-is_lawful-clause-step
returns-then-not-is_lawful-clause-step g c =
    resting_step c.args.g.now c.args.g.now c.rest.ensures.step refl

pub returns-in-Some-clause-step : goal.returns-in-Some-clause-step
returns-in-Some-clause-step g c =
    resting_step c.args.g.now c.args.g.now c.rest.ensures.step refl

pub returns-clause-step : goal.returns-clause-step
returns-clause-step g c = resting_step c.args.g.now c.args.g.now c.rest.ensures.step refl
