use Rattle.tier_join.proofs.Rests.{worlds_promise}
use Rattle.tier_join.proofs.general.worlds_promise.Goals as goal

pub returns : goal.returns
returns c = worlds_promise
