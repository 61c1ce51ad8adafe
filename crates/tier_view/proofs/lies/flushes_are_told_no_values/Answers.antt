use Rattle.tier_view.proofs.Refusals.{flushes_are_told_no_values}
use Rattle.tier_view.proofs.lies.flushes_are_told_no_values.Goals as goal

pub returns : goal.returns
returns c = flushes_are_told_no_values
