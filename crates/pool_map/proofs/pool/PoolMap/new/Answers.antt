use Rattle.std.proofs.Common.{◌∙◌, ap, ap₂}
use Rattle.pool_map.specs.Slots.{filled}
use Rattle.pool_map.proofs.Filled.{filled_empty}
use Rattle.pool_map.proofs.Tidy.{at_first}
use Rattle.pool_map.proofs.pool.PoolMap.new.Goals as goal

pub returns : goal.returns
returns c = ap₂ (λ t r. record { table = t; ready = r }) (ap filled c.new.ensures ∙ filled_empty) c.new-2.ensures.items

pub invariant_of-result : goal.invariant_of-result
invariant_of-result c = at_first c.new.result c.new-2.result.items c.new.ensures c.new-2.ensures.items
