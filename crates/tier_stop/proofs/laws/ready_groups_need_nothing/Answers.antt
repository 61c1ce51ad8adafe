use Rattle.tier_stop.proofs.Needed.{nothing_of, ready_of}
use Rattle.tier_stop.proofs.laws.ready_groups_need_nothing.Goals as goal

pub returns : goal.returns
returns c = λ v. (ready_of v, nothing_of v)
