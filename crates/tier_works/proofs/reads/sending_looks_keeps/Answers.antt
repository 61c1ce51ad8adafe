use Rattle.tier_works.proofs.ReadSteps.{sending_looks_keeps}
use Rattle.tier_works.proofs.reads.sending_looks_keeps.Goals as goal

pub returns : goal.returns
returns c = sending_looks_keeps
