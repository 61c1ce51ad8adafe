use Rattle.tier_view.proofs.StartingReady.{readings_behind_openings}
use Rattle.tier_view.proofs.starts.readings_behind_openings.Goals as goal

pub returns : goal.returns
returns c = readings_behind_openings
