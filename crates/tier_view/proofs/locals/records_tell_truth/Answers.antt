use Rattle.tier_view.proofs.LocalFacts.{records_tell_truth}
use Rattle.tier_view.proofs.locals.records_tell_truth.Goals as goal

pub returns : goal.returns
returns c = records_tell_truth
