use Rattle.tier_join.proofs.Groups.{commits_promise}
use Rattle.tier_join.proofs.general.commits_promise.Goals as goal

pub returns : goal.returns
returns c = commits_promise
