use Rattle.tier_join.proofs.Lasting.{commits_rise}
use Rattle.tier_join.proofs.rising.commits_rise.Goals as goal

pub returns : goal.returns
returns c = commits_rise
