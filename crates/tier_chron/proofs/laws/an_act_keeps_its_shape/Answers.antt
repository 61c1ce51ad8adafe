-- The law, of this act.
use Rattle.tier_chron.proofs.Staying.{act_keeps_shape}
use Rattle.tier_chron.proofs.laws.an_act_keeps_its_shape.Goals as goal

pub returns : goal.returns
returns c = act_keeps_shape c.args._act.now
