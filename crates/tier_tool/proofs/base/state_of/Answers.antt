use Rattle.std.proofs.Common.{◌∙◌}
use Rattle.log_store.specs.Views.{store_of}
use Rattle.tier_tool.proofs.Outcomes.{found_none}
use Rattle.tier_tool.proofs.base.state_of.Goals as goal

pub returns-in-Ok-None-clause-found : goal.returns-in-Ok-None-clause-found
returns-in-Ok-None-clause-found g c =
    found_none c.args.name.now c.as_slice.result.now c.in-Ok-None.field-0 c.unknown.result (store_of c.args.pool.now) (store_of c.get.new.self)
    (c.as_slice.ensures ∙ c.in_ok-key.ensures.key) c.in-Ok-None.field-0-is c.unknown.ensures c.in-Ok-None.ensures.got
