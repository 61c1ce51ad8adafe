use Rattle.tier_view.proofs.LocalFacts.{records_answer_plainly}
use Rattle.tier_view.proofs.locals.records_answer_plainly.Goals as goal

pub returns : goal.returns
returns c = records_answer_plainly
