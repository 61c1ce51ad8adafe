use Rattle.tier_owners.proofs.Lasting.{epochs_rise_on_runs}
use Rattle.tier_owners.proofs.aging.epochs_rise_on_runs.Goals as goal

pub returns : goal.returns
returns c = epochs_rise_on_runs
