use Rattle.tier_view.proofs.Answering.{leaving_is_quiet}
use Rattle.tier_view.proofs.answers.leaving_is_quiet.Goals as goal

pub returns : goal.returns
returns c = leaving_is_quiet
