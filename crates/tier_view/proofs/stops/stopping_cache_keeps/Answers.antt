use Rattle.tier_view.proofs.Stopping.{stopping_cache_keeps}
use Rattle.tier_view.proofs.stops.stopping_cache_keeps.Goals as goal

pub returns : goal.returns
returns c = stopping_cache_keeps
