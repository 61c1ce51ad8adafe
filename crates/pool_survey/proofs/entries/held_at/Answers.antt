use Rattle.std.proofs.Common.{subst}
use Rattle.pool_keys.specs.Keys.{IsOf}
use Rattle.pool_keys.specs.declared.key.PoolKey.{PoolKey}
use Rattle.rec_codec.specs.Spelling.{SpellsParts, TierParts}
use Rattle.pool_survey.proofs.UnderKeys.{held_no_record, held_nothing, where_none, where_some}
use Rattle.pool_survey.proofs.entries.held_at.Goals as goal

pub returns-in-None-clause-none : goal.returns-in-None-clause-none
returns-in-None-clause-none c =
    held_nothing c.args.key.now c.args.value.now
    (where_none ((kind : PoolKey) → IsOf c.args.key.now kind → ⊥) c.in_ok-read_key.field-0
    c.in-None.is c.in_ok-read_key.ensures.none)

pub returns-in-None-2-clause-none : goal.returns-in-None-2-clause-none
returns-in-None-2-clause-none c =
    held_no_record c.args.key.now c.args.value.now c.in-Some-Record.name
    (subst (IsOf c.args.key.now) c.in-Some-Record.field-0-is
    (where_some (IsOf c.args.key.now) c.in_ok-read_key.field-0 c.in-Some-Record.field-0
    c.in-Some-Record.is c.in_ok-read_key.ensures.found))
    (where_none ((r : TierParts) → SpellsParts c.args.value.now r → ⊥)
    (c.in_ok-record_of-in-Some-Record).field-0 c.in-None-2.is
    (c.in_ok-record_of-in-Some-Record).ensures.none)
