use Rattle.tier_view.proofs.Refusals.{second_commits_are_refused}
use Rattle.tier_view.proofs.lies.second_commits_are_refused.Goals as goal

pub returns : goal.returns
returns c = second_commits_are_refused
