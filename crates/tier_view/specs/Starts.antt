-- The base stops; what is lost; a store is opened anew; the cache's epoch is raised; a Fence is
-- sent and told; and what a ready group has.
use Rattle.std.specs.Prelude.{◌≡◌, ◌≢◌, ◌≤◌, ◌<◌, ◌⊎◌, ℕ, ◌+◌, max, true, false, List, Option, Some, None, Ok, Err}
use Rattle.agent_state.specs.declared.totals.Totals.{Totals}
use Rattle.obj_model.specs.Limits.{number_limit}
use Rattle.obj_model.specs.declared.change.Pool.{Pool}
use Rattle.obj_model.specs.declared.change.Pool.TheVariants.{Cache, Base}
use Rattle.obj_ops.specs.Stores.{Store}
use Rattle.pool_keys.specs.Keys.{epoch_key}
use Rattle.pool_keys.specs.Laws.{HasOneMap}
use Rattle.pool_keys.specs.Values.{IsAtEpoch, SpellsEpoch}
use Rattle.store_face.specs.Calls.{Among, Committed}
use Rattle.store_face.specs.Views.{Sound, StoreView}
use Rattle.store_face.specs.declared.fault.StoreFault.TheVariants.{Disk, BadImage, NoSpace, Worn, NoMemory}
use Rattle.tier_join.specs.Ends.{IsSettled}
use Rattle.tier_join.specs.Group.{BothTell, ShowsIn, store_in}
use Rattle.tier_join.specs.Promises.{as_it_is}
use Rattle.tier_join.specs.Steps.{FoundOrNot, Has, Outcome, ReadAgain, sets, with_doubt}
use Rattle.tier_protocol.specs.Tiers.{BaseMsg, BaseReply, Phase, IsIn}
use Rattle.tier_view.specs.Changes.{unawaited, unnoted, without_message, without_reply}
use Rattle.tier_view.specs.Laws.{Keeps}
use Rattle.tier_view.specs.Settles.{settled, settled_with}
use Rattle.tier_view.specs.Standing.{Standing}
use Rattle.tier_view.specs.Steps.{sent_now}
use Rattle.tier_view.specs.Locals.{with_cache}
use Rattle.tier_view.specs.Stops.{with_cache_stopped}
use Rattle.tier_view.specs.Stores.{Pending, Stores}
use Rattle.tier_view.specs.Traffic.{Replied}
use Rattle.tier_view.specs.Views.{GroupView, joined}
use Rattle.tier_view.specs.Whole.{AreSums, IsElsewhere, IsKnown, IsReady, IsWhole}
use Rattle.tier_view.specs.Worlds.{Began}

-- a change that may come at any moment, in a doubt too
abbrev pub MayAlwaysCome : (GroupView → GroupView) → Type 0
MayAlwaysCome change =
    (v : GroupView) → IsWhole v → Keeps (with_doubt (joined v).doubt) None v (change v)

-- ---- the base stops

-- the base is stopped, and has to tell its epoch anew; all that is under way stays
abbrev pub with_base_stopped : GroupView → GroupView
with_base_stopped v = record v {
  stores = record v.stores { base_stopped = true };
  standing = record v.standing { fenced = false };
}

abbrev pub StoppingBaseKeeps : Type 0
StoppingBaseKeeps = MayAlwaysCome with_base_stopped

-- ---- what is lost or forgotten

-- a message
abbrev pub forgot_message : (number : ℕ) → GroupView → GroupView
forgot_message number v = record v { traffic = without_message number v.traffic }

-- a reply
abbrev pub forgot_reply : (number : ℕ) → GroupView → GroupView
forgot_reply number v = record v { traffic = without_reply number v.traffic }

-- the message that a call awaited
abbrev pub forgot_awaited : (call : ℕ) → GroupView → GroupView
forgot_awaited call v =
    record v { traffic = record v.traffic { awaited = unawaited call v.traffic.awaited } }

-- how far a call's drain has come
abbrev pub forgot_noted : (call : ℕ) → GroupView → GroupView
forgot_noted call v =
    record v { traffic = record v.traffic { noted = unnoted call v.traffic.noted } }

-- the line and the call that a Fence keeps, where they were answered
abbrev pub forgot_kept : GroupView → GroupView
forgot_kept v = record v { standing = record v.standing { kept = None } }

abbrev pub LosingMessagesKeeps : Type 0
LosingMessagesKeeps = (number : ℕ) → MayAlwaysCome (forgot_message number)

abbrev pub LosingRepliesKeeps : Type 0
LosingRepliesKeeps = (number : ℕ) → MayAlwaysCome (forgot_reply number)

abbrev pub EndingWaitsKeeps : Type 0
EndingWaitsKeeps = (call : ℕ) → MayAlwaysCome (forgot_awaited call)

abbrev pub EndingNotesKeeps : Type 0
EndingNotesKeeps = (call : ℕ) → MayAlwaysCome (forgot_noted call)

abbrev pub AnsweringFencesKeeps : Type 0
AnsweringFencesKeeps = MayAlwaysCome forgot_kept

-- ---- a store is opened anew

-- this store in a pool's place
abbrev pub placed : Pool → StoreView → Stores → Stores
placed Cache s x = record x { cache = s }
placed Base s x = record x { base = s }

-- The opening, or the reading behind it, failed: whether the pool was stopped, and what is in
-- doubt, stays as it was.
abbrev pub unopened : Pool → StoreView → GroupView → GroupView
unopened pool s v = record v { stores = placed pool s v.stores }

-- It failed, and the pool counts as stopped from then on. So may a base whose epoch is neither the
-- one that is kept of it nor the one in doubt, and a cache whose sums were not taken.
abbrev pub halted : Pool → StoreView → GroupView → GroupView
halted Cache s v = unopened Cache s (with_cache_stopped v)
halted Base s v = unopened Base s (with_base_stopped v)

-- this store in a pool's place, which runs again; what is in doubt stays
abbrev pub running : Pool → StoreView → Stores → Stores
running Cache s x = record x { cache = s; cache_stopped = false }
running Base s x = record x { base = s; base_stopped = false }

-- The store was opened, and no commit of this pool is in doubt. The sums over the cache's records
-- were taken again.
abbrev pub opened_anew : Pool → StoreView → Totals → GroupView → GroupView
opened_anew pool s totals v = record v {
  stores = running pool s v.stores;
  agent = record v.agent { totals = totals };
}

-- the cache is raised to this epoch, and operations count from 1
abbrev pub raised_in : (epoch : ℕ) → Standing → Standing
raised_in e s = record s {
  cache_epoch = e;
  next_opid = 1;
  phase = Phase.Raised;
  fenced = false;
}

-- a raise that was in doubt is there: it counts as the raise that was needed
abbrev pub settled_raised : (epoch : ℕ) → StoreView → Totals → GroupView → GroupView
settled_raised e s totals v =
    record (settled Cache s totals v) { standing = raised_in e v.standing }

-- a Fence's epoch that was in doubt is there
abbrev pub settled_fenced : (epoch : ℕ) → StoreView → Totals → GroupView → GroupView
settled_fenced e s totals v =
    record (settled Base s totals v) { standing = record v.standing { base_epoch = e } }

-- the pool that a doubt is about
abbrev pub pool_in : Pending → Pool
pool_in (Pending.Plain pool name) = pool
pool_in (Pending.Act pool first a seq) = pool
pool_in (Pending.Epoch pool e) = pool

-- The store was opened, and the commit in doubt is settled by what was read under its key: an act
-- that is there enters the history, an epoch that is there is the pool's. What is not there never
-- was.
abbrev pub IsSettledBy : Pending → StoreView → Totals → (old new : GroupView) → Type 0
IsSettledBy (Pending.Plain pool name) s totals old new =
    ReadAgain pool name (joined new) × (new ≡ settled pool s totals old)
IsSettledBy (Pending.Act pool first a seq) s totals old new =
    FoundOrNot s (ShowsIn pool a.req.name seq) (new ≡ settled_with pool s totals first a old)
    (new ≡ settled pool s totals old)
IsSettledBy (Pending.Epoch Cache e) s totals old new =
    FoundOrNot s (IsAtEpoch e) (new ≡ settled_raised e s totals old)
    (new ≡ settled Cache s totals old)
IsSettledBy (Pending.Epoch Base e) s totals old new =
    FoundOrNot s (IsAtEpoch e) (new ≡ settled_fenced e s totals old)
    (new ≡ settled Base s totals old)

-- what the opening of a store may come to
pub data ComesTo (pool : Pool) (s : StoreView) (totals : Totals) (old new : GroupView) : Type 0
  where
    fails : new ≡ unopened pool s old → ComesTo pool s totals old new
    halts : new ≡ halted pool s old → ComesTo pool s totals old new
    opens : IsElsewhere pool old.stores.pending → new ≡ opened_anew pool s totals old
        → ComesTo pool s totals old new
    settles : (p : Pending) → old.stores.pending ≡ Some p → pool_in p ≡ pool
        → IsSettledBy p s totals old new → ComesTo pool s totals old new

-- A pool's store is opened anew, in each of its outcomes. The totals are the sums behind it,
-- wherever the cache counts as live then.
pub record OpensStore (pool : Pool) (s : StoreView) (totals : Totals) (old new : GroupView) : Type 0
  where
    pub among : Among (store_in pool (joined old)) s
    pub later : (store_in pool (joined old)).faults ≤ s.faults
    pub summed : AreSums new.stores new.agent
    pub comes : ComesTo pool s totals old new

abbrev pub OpeningStoresKeeps : Type 0
OpeningStoresKeeps =
    (pool : Pool) (s : StoreView) (totals : Totals) (v w : GroupView) → IsWhole v
    → OpensStore pool s totals v w → Keeps (with_doubt (joined v).doubt) None v w

-- Readings behind an opening, that answer or fail, leave the store's moments.
abbrev pub ReadingsBehindOpenings : Type 0
ReadingsBehindOpenings =
    (old opened read : StoreView) → Among old opened → read.moments ≡ opened.moments
    → Among old read

-- Where an opening of the cache failed nothing is asked of the totals: the store is not live, or
-- the cache was stopped, or its doubt stands.
abbrev pub UnopenedCachesAskNoSums : Type 0
UnopenedCachesAskNoSums =
    (v : GroupView) (s : StoreView)
    → (s.live ≡ false) ⊎ (v.stores.cache_stopped ≡ true)
    ⊎ ((p : Pending) × (v.stores.pending ≡ Some p) × (pool_in p ≡ Cache))
    → AreSums (unopened Cache s v).stores v.agent

-- The base's opening leaves the sums as they were: where it fails, where no commit of the base is
-- in doubt, and where one was.
abbrev pub OpeningBaseLeavesSums : Type 0
OpeningBaseLeavesSums =
    (v : GroupView) (s : StoreView) → IsWhole v
    → AreSums (unopened Base s v).stores v.agent
    × AreSums (opened_anew Base s v.agent.totals v).stores v.agent
    × ((p : Pending) → v.stores.pending ≡ Some p → pool_in p ≡ Base
    → AreSums (settled Base s v.agent.totals v).stores v.agent)

-- ---- the cache's epoch is raised

-- Made: the cache is raised. In doubt: the epoch is kept. Else nothing.
abbrev pub raised_there : (epoch : ℕ) → StoreView → Outcome → GroupView → GroupView
raised_there e s (Ok made) v =
    record (with_cache s None v) { standing = raised_in e v.standing }
raised_there e s (Err Disk) v = with_cache s (Some (Pending.Epoch Cache e)) v
raised_there e s (Err (BadImage at)) v = with_cache s None v
raised_there e s (Err (NoSpace used need limit)) v = with_cache s None v
raised_there e s (Err (Worn limit)) v = with_cache s None v
raised_there e s (Err NoMemory) v = with_cache s None v

-- A cache that is down, and was opened since its last stop, commits the epoch above both. An epoch
-- has its limit: above that none is spelled, and nothing is raised. The epoch that the cache's map
-- had was read.
pub record RaisesThere (v : GroupView) (epoch was : ℕ) (bytes : List ℕ) (s : StoreView)
    (result : Outcome) : Type 0 where
  pub down : v.standing.phase ≡ Phase.Down
  pub next : epoch ≡ max v.standing.cache_epoch v.standing.base_epoch + 1
  pub spelled : SpellsEpoch bytes epoch
  pub live : v.stores.cache.live ≡ true
  pub runs : v.stores.cache_stopped ≡ false
  pub has : Has v.stores.cache (IsAtEpoch was)
  pub committed : Committed (sets epoch_key (Some bytes)) v.stores.cache s result

abbrev pub RaisingThereKeeps : Type 0
RaisingThereKeeps =
    (v : GroupView) (epoch was : ℕ) (bytes : List ℕ) (s : StoreView) (result : Outcome)
    → IsWhole v → v.stores.pending ≡ None → RaisesThere v epoch was bytes s result
    → Keeps as_it_is None v (raised_there epoch s result v)

-- at the highest number there is no raise
abbrev pub RaisesHaveTheirLimit : Type 0
RaisesHaveTheirLimit =
    (v : GroupView) (epoch was : ℕ) (bytes : List ℕ) (s : StoreView) (result : Outcome)
    → RaisesThere v epoch was bytes s result
    → (v.standing.cache_epoch < number_limit) × (v.standing.base_epoch < number_limit)

-- where both stores tell, each has memory's epoch of its pool
abbrev pub EpochsAreThere : Type 0
EpochsAreThere =
    (v : GroupView) → IsWhole v → v.stores.pending ≡ None → BothTell (joined v)
    → Has v.stores.cache (IsAtEpoch v.standing.cache_epoch)
    × Has v.stores.base (IsAtEpoch v.standing.base_epoch)

-- ---- the base is told the epoch, and tells it

-- A Fence of the cache's epoch is sent. It keeps the line and the call of who sent it.
abbrev pub fence_sent : (line call : Option ℕ) → GroupView → GroupView
fence_sent line call v =
    record (sent_now (BaseMsg.Fence v.standing.cache_epoch) None v) {
      standing = record v.standing { kept = Some (record { line = line; call = call }) };
    }

abbrev pub SendingFencesKeeps : Type 0
SendingFencesKeeps =
    (v : GroupView) (line call : Option ℕ) → IsWhole v → v.stores.pending ≡ None
    → v.standing.phase ≢ Phase.Down → Keeps as_it_is None v (fence_sent line call v)

-- A reply Fenced of the present epoch, whichever Fence of this epoch it answers, to a cache that
-- was raised, while the base runs.
pub record HearsFenced (v : GroupView) (r : Replied) : Type 0 where
  pub on : IsIn r v.traffic.replies
  pub reply : r.reply ≡ BaseReply.Fenced v.standing.cache_epoch
  pub raised : v.standing.phase ≢ Phase.Down
  pub runs : v.stores.base_stopped ≡ false

-- the cache is up, the base told its epoch, and the Fence keeps nobody any more
abbrev pub gone_up : GroupView → GroupView
gone_up v = record v {
  standing = record v.standing { phase = Phase.Up; fenced = true; kept = None };
}

abbrev pub HearingFencedKeeps : Type 0
HearingFencedKeeps =
    (v : GroupView) (r : Replied) → IsWhole v → HearsFenced v r
    → Keeps (with_doubt (joined v).doubt) None v (gone_up v)

-- ---- readiness

-- What a ready group has.
pub record IsServing (v : GroupView) : Type 0 where
  pub settled : (joined v).doubt ≡ None
  pub up : v.standing.phase ≡ Phase.Up
  pub started : 0 < v.standing.cache_epoch
  pub level : BothTell (joined v) → v.standing.base_epoch ≡ v.standing.cache_epoch
  -- a stop leaves the one map of each store
  pub cache : Sound v.stores.cache → HasOneMap v.stores.cache
  pub base : Sound v.stores.base → HasOneMap v.stores.base
  -- so its totals are the sums over the records of the cache's map
  pub known : IsKnown v.stores
  -- what it reads and hears is plain where the group began
  pub plain : (start : Store) → BothTell (joined v) → Began start v → IsSettled start (joined v)

abbrev pub ReadyGroupsServe : Type 0
ReadyGroupsServe = (v : GroupView) → IsWhole v → IsReady v.stores v.standing → IsServing v
