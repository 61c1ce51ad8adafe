use Rattle.obj_laws.proofs.Paging.{tell_all}
use Rattle.obj_laws.proofs.pages.pages_tell_all.Goals as goal

pub returns : goal.returns
returns c = tell_all c.args._omap.now c.args._max
