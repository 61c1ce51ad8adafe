use Rattle.tier_view.proofs.AnsweringFaults.{faults_have_room}
use Rattle.tier_view.proofs.answered.faults_have_room.Goals as goal

pub returns : goal.returns
returns c = faults_have_room
