use Rattle.tier_owners.proofs.Lasting.{moves_rise}
use Rattle.tier_owners.proofs.aging.moves_rise.Goals as goal

pub returns : goal.returns
returns c = moves_rise
