use Rattle.obj_laws.proofs.Paging.{short_is_last}
use Rattle.obj_laws.proofs.pages.short_page_is_last.Goals as goal

pub returns : goal.returns
returns c = short_is_last c.args._omap.now c.args._max
