use Rattle.tier_join.proofs.Ages.{each_step_rises}
use Rattle.tier_join.proofs.rising.each_step_rises.Goals as goal

pub returns : goal.returns
returns c = each_step_rises
