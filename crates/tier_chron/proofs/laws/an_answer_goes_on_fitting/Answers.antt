-- The law, of this act and this answer.
use Rattle.tier_chron.proofs.Staying.{answer_stays}
use Rattle.tier_chron.proofs.laws.an_answer_goes_on_fitting.Goals as goal

pub returns : goal.returns
returns c = answer_stays c.args._act.now c.args._logged.now
