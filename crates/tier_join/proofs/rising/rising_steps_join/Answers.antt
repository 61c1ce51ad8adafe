use Rattle.tier_join.proofs.Ages.{rising_steps_join}
use Rattle.tier_join.proofs.rising.rising_steps_join.Goals as goal

pub returns : goal.returns
returns c = rising_steps_join
