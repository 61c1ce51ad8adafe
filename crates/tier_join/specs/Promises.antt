-- What a step promises: what holds goes on, and whatever a stop leaves meanwhile stands for the
-- plain store of before, or for that with the step's act.
use Rattle.std.specs.Prelude.{◌≤◌, ◌⊎◌, ◌<◌, ℕ, List, [], ◌∷◌, ◌++◌, ◌≡◌}
use Rattle.obj_model.specs.declared.req.Req.{Req}
use Rattle.obj_ops.specs.Acts.{act}
use Rattle.obj_ops.specs.Stores.{Store, state_of, store_after}
use Rattle.tier_protocol.specs.Laws as protocol
use Rattle.tier_protocol.specs.Tiers.{Recs}
use Rattle.tier_join.specs.Group.{TwoMaps, View, BeganAt, BothTell, IsRemembered, store_now}
use Rattle.pool_keys.specs.Left.{IsLeftSince}
use Rattle.pool_keys.specs.Maps.{SpellsBase, SpellsCache}

-- two maps spell, at these epochs, records and states that stand for a plain store
pub record StandsAt (cache_epoch base_epoch : ℕ) (z : TwoMaps) (plain : Store) : Type 0 where
  pub recs : Recs
  pub base : Store
  pub cached : SpellsCache z.cache recs cache_epoch
  pub based : SpellsBase z.base base base_epoch
  pub stands : protocol.StandsFor recs base plain
  -- a cache that was never started has no epoch, and may lie over any base
  pub behind : 0 < cache_epoch → base_epoch ≤ cache_epoch

-- two maps stand for a plain store
abbrev pub StandsFor : TwoMaps → Store → Type 0
StandsFor z plain = (cache_epoch : ℕ) × (base_epoch : ℕ) × StandsAt cache_epoch base_epoch z plain

-- a stop at some moment from old to new may leave these maps
abbrev pub AreLeftSince : (old new : View) → TwoMaps → Type 0
AreLeftSince old new z = IsLeftSince old.cache new.cache z.cache
    × IsLeftSince old.base new.base z.base

-- whatever a stop leaves from old to new stands for the one store, or for the other
abbrev pub StopsLeave : (plain other : Store) → (old new : View) → Type 0
StopsLeave plain other old new =
    (z : TwoMaps) → AreLeftSince old new z → StandsFor z plain ⊎ StandsFor z other

-- the store with one act more
abbrev pub with_req : Req → Store → Store
with_req q store = store_after store q.name (act (state_of store q.name) q)

-- the same store
abbrev pub as_it_is : Store → Store
as_it_is store = store

-- the history is the same, or has one act more
abbrev pub OneMore : (old new : List Req) → Type 0
OneMore old new = (new ≡ old) ⊎ ((q : Req) × (new ≡ old ++ q ∷ []))

-- What a step from old to new promises, where `other` is what its act makes of the plain store.
pub record Promises (other : Store → Store) (old new : View) : Type 0 where
  -- no act is forgotten, and at most one comes
  pub history : OneMore old.memory.acts new.memory.acts
  -- what holds of memory alone
  pub memory : IsRemembered old → IsRemembered new
  -- the stores tell their maps where they did
  pub tell : BothTell old → BothTell new
  pub told : BothTell new → BothTell old
  -- a store at which the group began is one at which it began still
  pub began : (start : Store) → BothTell old → BeganAt start old → BeganAt start new
  pub stops : (start : Store) → BothTell old → BeganAt start old
      → StopsLeave (store_now start old) (other (store_now start old)) old new
