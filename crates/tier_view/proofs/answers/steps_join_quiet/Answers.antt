use Rattle.tier_view.proofs.Answering.{steps_join_quiet}
use Rattle.tier_view.proofs.answers.steps_join_quiet.Goals as goal

pub returns : goal.returns
returns c = steps_join_quiet
