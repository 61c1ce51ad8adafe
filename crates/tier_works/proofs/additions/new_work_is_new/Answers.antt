use Rattle.tier_works.proofs.NewWork.{new_work_is_new}
use Rattle.tier_works.proofs.additions.new_work_is_new.Goals as goal

pub returns : goal.returns
returns c = new_work_is_new
