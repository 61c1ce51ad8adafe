use Rattle.tier_view.proofs.StartingRaises.{raises_have_their_limit}
use Rattle.tier_view.proofs.starts.raises_have_their_limit.Goals as goal

pub returns : goal.returns
returns c = raises_have_their_limit
