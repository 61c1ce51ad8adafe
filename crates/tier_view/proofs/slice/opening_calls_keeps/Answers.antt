use Rattle.tier_view.proofs.Opening.{opening_calls_keeps}
use Rattle.tier_view.proofs.slice.opening_calls_keeps.Goals as goal

pub returns : goal.returns
returns c = opening_calls_keeps
