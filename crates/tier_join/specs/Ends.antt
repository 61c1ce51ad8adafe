-- What is proved of the beginning, of what is left, and of what callers are told.
use Rattle.std.specs.Prelude.{◌≡◌, ◌⊎◌, ℕ, List, Option, Some, None}
use Rattle.std.specs.FinMap as fin
use Rattle.copy_chunk.specs.declared.chunk.Chunk.{Chunk}
use Rattle.obj_model.specs.declared.reply.Reply.{Reply}
use Rattle.obj_model.specs.declared.req.Req.{Req}
use Rattle.obj_model.specs.declared.state.NameState.{NameState}
use Rattle.obj_ops.specs.declared.reading.Looked.{Looked}
use Rattle.obj_ops.specs.declared.request.Acted.TheVariants.{Fresh}
use Rattle.obj_ops.specs.Acts.{act, look}
use Rattle.obj_ops.specs.Stores.{Store, state_of}
use Rattle.pool_keys.specs.Maps.{SpellsBase}
use Rattle.store_face.specs.Tables.{Table}
use Rattle.store_face.specs.Views.{StoreView}
use Rattle.tier_types.specs.Serving.{lasting}
use Rattle.tier_protocol.specs.Laws.{found}
use Rattle.tier_protocol.specs.Moves.{MayLand, MayPromote}
use Rattle.tier_protocol.specs.Sound.{AreFresh}
use Rattle.tier_protocol.specs.Tiers.{Name, Ask, BaseActed, BaseMsg, BaseReply, Flight, IsIn, Phase, ReadFlight, Tier, TierRec}
use Rattle.tier_join.specs.Group.{TwoMaps, View, AreLeft, BeganAt, BothTell, IsGroup, store_now}
use Rattle.pool_keys.specs.Left.{IsLeft}
use Rattle.tier_join.specs.Promises.{StandsAt, StandsFor}
use Rattle.tier_join.specs.Steps.{Has, HasRec, HasState, seen, with_doubt}
use Rattle.pool_keys.specs.Values.{IsAtEpoch}

-- ---- the beginning

-- two stores as they are found when they are attached: the cache is down, nothing is under way
abbrev pub found_view : (cache base : StoreView) → (cache_epoch base_epoch : ℕ) → View
found_view cache base cache_epoch base_epoch =
    let t : Tier = found fin.empty fin.empty fin.empty cache_epoch base_epoch in
    record {
      cache = cache;
      base = base;
      doubt = None;
      memory = record { acts = t.acts; flights = t.flights; net = t.net };
    }

-- A cache that has nothing yet may lie over any base, and with it stands for the base's states.
abbrev pub EmptyCachesStand : Type 0
EmptyCachesStand =
    (y : Table) (base : Store) (epoch : ℕ) → SpellsBase y base epoch
    → StandsAt 0 epoch (record { cache = fin.empty; base = y }) base

-- two pools that have nothing stand for the empty store
abbrev pub EmptyPairsStand : Type 0
EmptyPairsStand = StandsAt 0 0 (record { cache = fin.empty; base = fin.empty }) fin.empty

-- stores whose maps stand for a plain store begin a group there
abbrev pub GroupsBegin : Type 0
GroupsBegin =
    (start : Store) (cache base : StoreView) (cache_epoch base_epoch : ℕ)
    → ((z : TwoMaps) → IsLeft cache z.cache → IsLeft base z.base
    → StandsAt cache_epoch base_epoch z start)
    → IsGroup (found_view cache base cache_epoch base_epoch)
    × BeganAt start (found_view cache base cache_epoch base_epoch)

-- What a stop left can be attached anew: over stores that have these maps a group begins at the
-- plain store that they stand for.
abbrev pub GroupsBeginAnew : Type 0
GroupsBeginAnew =
    (z : TwoMaps) (plain : Store) (h : StandsFor z plain) (cache base : StoreView)
    → Has cache (λ t. t ≡ z.cache) → Has base (λ t. t ≡ z.base)
    → IsGroup (found_view cache base h.0 h.1) × BeganAt plain (found_view cache base h.0 h.1)

-- whatever a stop now leaves stands for the plain store, or for that with the act in doubt
abbrev pub LeftStands : Type 0
LeftStands =
    (start : Store) (v : View) (z : TwoMaps) → BeganAt start v → AreLeft v z
    → StandsFor z (store_now start v) ⊎ StandsFor z (with_doubt v.doubt (store_now start v))

-- each act of the history acts on the store that those before it leave
abbrev pub HistoriesAreLegal : Type 0
HistoriesAreLegal = (start : Store) (v : View) → BothTell v → BeganAt start v
    → AreFresh start v.memory.acts

-- ---- what callers are told, where no commit is in doubt

-- the group began at this store, both stores tell, and no commit is in doubt
pub record IsSettled (start : Store) (v : View) : Type 0 where
  pub tell : BothTell v
  pub began : BeganAt start v
  pub settled : v.doubt ≡ None

-- a record of the cache has the plain store's state
abbrev pub RecordsArePlain : Type 0
RecordsArePlain =
    (start : Store) (v : View) (k : Name) (r : TierRec) → IsSettled start v → HasRec v k (Some r)
    → r.state ≡ state_of (store_now start v) k

-- where the cache has no record, the base has the plain store's state
abbrev pub BaresArePlain : Type 0
BaresArePlain =
    (start : Store) (v : View) (k : Name) (s : NameState) → IsSettled start v → HasRec v k None
    → HasState v k s
    → s ≡ state_of (store_now start v) k

-- a promotion that has all chunks has the plain store's state
abbrev pub PromotionsArePlain : Type 0
PromotionsArePlain =
    (start : Store) (v : View) (k : Name) (call op : ℕ) (gather : List Chunk) (ask : Ask)
    (s : NameState)
    → IsSettled start v → MayPromote (seen v.memory k None) k call op gather ask s
    → s ≡ state_of (store_now start v) k

-- what a proxied read is told is what the plain store tells
abbrev pub ReadsArePlain : Type 0
ReadsArePlain =
    (start : Store) (v : View) (k : Name) (list : List ReadFlight) (r : ReadFlight) (l : Looked)
    → IsSettled start v
    → fin.get v.memory.flights k ≡ Some (Flight.Reads list) → IsIn r list
    → IsIn (BaseReply.Looked v.memory.net.cache_epoch r.opid l) v.memory.net.replies
    → l ≡ look (state_of (store_now start v) k) r.vector

-- what a proxied write is told is what the plain store answers its request from then on
abbrev pub WritesArePlain : Type 0
WritesArePlain =
    (start : Store) (v : View) (k : Name) (driver : Option ℕ) (owner op : ℕ) (r : Req)
    (a : BaseActed)
    → IsSettled start v → MayLand (seen v.memory k None) k driver owner op r a
    → act (state_of (store_now start v) k) r ≡ lasting a

-- a Write that acts on the base acts on the plain store in the same way
abbrev pub ActsArePlain : Type 0
ActsArePlain =
    (start : Store) (v : View) (op : ℕ) (r : Req) (b s : NameState) (answer : Reply)
    → IsSettled start v
    → IsIn (BaseMsg.Write v.memory.net.base_epoch op r) v.memory.net.wire → HasState v r.name b
    → act b r ≡ Fresh s answer → act (state_of (store_now start v) r.name) r ≡ Fresh s answer

-- a cache that is up has the base's epoch
abbrev pub EpochsAreLevel : Type 0
EpochsAreLevel =
    (start : Store) (v : View) → IsSettled start v → v.memory.net.phase ≡ Phase.Up
    → v.memory.net.base_epoch ≡ v.memory.net.cache_epoch

-- each map that a stop leaves has memory's epoch of its pool
abbrev pub EpochsAreMemorys : Type 0
EpochsAreMemorys =
    (start : Store) (v : View) (z : TwoMaps) → IsSettled start v → AreLeft v z
    → IsAtEpoch v.memory.net.cache_epoch z.cache × IsAtEpoch v.memory.net.base_epoch z.base
