use Rattle.tier_view.proofs.ServingStrays.{straying_there_keeps}
use Rattle.tier_view.proofs.serves.straying_there_keeps.Goals as goal

pub returns : goal.returns
returns c = straying_there_keeps
