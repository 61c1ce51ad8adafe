use Rattle.tier_view.proofs.AnsweringFaults.{faulty_calls_keep}
use Rattle.tier_view.proofs.answered.faulty_calls_keep.Goals as goal

pub returns : goal.returns
returns c = faulty_calls_keep
