use Rattle.tier_view.proofs.StartingRests.{stopping_base_keeps}
use Rattle.tier_view.proofs.starts.stopping_base_keeps.Goals as goal

pub returns : goal.returns
returns c = stopping_base_keeps
