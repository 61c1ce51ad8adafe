use Rattle.tier_join.proofs.Seeing.{guards_are_seen}
use Rattle.tier_join.proofs.general.guards_are_seen.Goals as goal

pub returns : goal.returns
returns c = guards_are_seen
