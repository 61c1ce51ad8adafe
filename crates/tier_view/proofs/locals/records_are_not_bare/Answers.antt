use Rattle.tier_view.proofs.LocalFrees.{records_are_not_bare}
use Rattle.tier_view.proofs.locals.records_are_not_bare.Goals as goal

pub returns : goal.returns
returns c = records_are_not_bare
