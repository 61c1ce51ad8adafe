-- The law, of this act.
use Rattle.tier_chron.proofs.Staying.{act_keeps_truth}
use Rattle.tier_chron.proofs.laws.an_act_keeps_answers_true.Goals as goal

pub returns : goal.returns
returns c = act_keeps_truth c.args._act.now
