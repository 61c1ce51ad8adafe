use Rattle.tier_view.proofs.LocalFrees.{leaving_cache_keeps}
use Rattle.tier_view.proofs.locals.leaving_cache_keeps.Goals as goal

pub returns : goal.returns
returns c = leaving_cache_keeps
