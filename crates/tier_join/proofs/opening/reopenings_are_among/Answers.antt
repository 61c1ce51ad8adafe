use Rattle.tier_join.proofs.Reopening.{reopenings_are_among}
use Rattle.tier_join.proofs.opening.reopenings_are_among.Goals as goal

pub returns : goal.returns
returns c = reopenings_are_among
