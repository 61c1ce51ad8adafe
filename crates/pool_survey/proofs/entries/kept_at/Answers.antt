use Rattle.pool_keys.specs.Keys.{IsOf}
use Rattle.pool_keys.specs.declared.key.PoolKey.{PoolKey}
use Rattle.pool_survey.proofs.UnderKeys.{kept_nothing, where_none}
use Rattle.pool_survey.proofs.entries.kept_at.Goals as goal

pub returns-in-None-clause-none : goal.returns-in-None-clause-none
returns-in-None-clause-none c =
    kept_nothing c.args.key.now c.args.value.now
    (where_none ((kind : PoolKey) → IsOf c.args.key.now kind → ⊥) c.in_ok-read_key.field-0
    c.in-None.is c.in_ok-read_key.ensures.none)
