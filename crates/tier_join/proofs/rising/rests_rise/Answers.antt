use Rattle.tier_join.proofs.Lasting.{rests_rise}
use Rattle.tier_join.proofs.rising.rests_rise.Goals as goal

pub returns : goal.returns
returns c = rests_rise
