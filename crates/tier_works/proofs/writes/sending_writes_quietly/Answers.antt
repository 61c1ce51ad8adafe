use Rattle.tier_works.proofs.WriteSteps.{sending_writes_quietly}
use Rattle.tier_works.proofs.writes.sending_writes_quietly.Goals as goal

pub returns : goal.returns
returns c = sending_writes_quietly
