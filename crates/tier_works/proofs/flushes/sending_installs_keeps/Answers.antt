use Rattle.tier_works.proofs.FlushSteps.{sending_installs_keeps}
use Rattle.tier_works.proofs.flushes.sending_installs_keeps.Goals as goal

pub returns : goal.returns
returns c = sending_installs_keeps
