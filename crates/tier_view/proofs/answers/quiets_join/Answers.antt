use Rattle.tier_view.proofs.Answering.{quiets_join}
use Rattle.tier_view.proofs.answers.quiets_join.Goals as goal

pub returns : goal.returns
returns c = quiets_join
