-- What is read of a group.
use Rattle.std.specs.Prelude.{◌≡◌, ℕ, true, List, Option, None, Result}
use Rattle.base_pool.specs.Opens.{ReadsState}
use Rattle.base_pool.specs.declared.fault.BaseFault.{BaseFault}
use Rattle.cache_pool.specs.Reads.{ReadsRecord}
use Rattle.cache_pool.specs.declared.fault.CacheFault.{CacheFault}
use Rattle.obj_model.specs.declared.state.NameState.{NameState}
use Rattle.tier_serve.specs.Bridges.{base_of}
use Rattle.tier_types.specs.declared.record.TierRec.{TierRec}
use Rattle.tier_view.specs.Delivers.{with_base}
use Rattle.tier_view.specs.Locals.{with_cache}
use Rattle.tier_view.specs.Views.{GroupView}

-- the record of a name is read of the cache, or why it is not; all but the cache's store is as it
-- was
pub record ReadsHere (name : List ℕ) (old new : GroupView)
    (result : Result (Option TierRec) CacheFault) : Type 0 where
  pub read : ReadsRecord name old.stores.cache new.stores.cache result
  pub is : new ≡ with_cache new.stores.cache None old

-- the state of a name is read of the base, or why it is not; all but the base's store is as it was
pub record ReadsThere (name : List ℕ) (old new : GroupView) (result : Result NameState BaseFault)
    : Type 0 where
  pub read : ReadsState name (base_of true old) (base_of true new) result
  pub is : new ≡ with_base new.stores.base None old
