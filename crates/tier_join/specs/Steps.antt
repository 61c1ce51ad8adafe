-- What a step is: a commit in one pool, with the memory that it leaves; a change of memory alone;
-- the opening of a store.
use Rattle.std.specs.Prelude.{◌≡◌, ◌⊎◌, ◌<◌, ℕ, ◌+◌, List, [], ◌∷◌, Option, Some, None, Result, Ok, Err}
use Rattle.std.specs.FinMap as fin
use Rattle.obj_model.specs.declared.change.Change.{Change}
use Rattle.obj_model.specs.declared.change.Change.TheVariants.{Put, Remove}
use Rattle.obj_model.specs.declared.change.Pool.{Pool}
use Rattle.obj_model.specs.declared.change.Pool.TheVariants.{Cache, Base}
use Rattle.obj_model.specs.declared.state.NameState.{NameState}
use Rattle.obj_ops.specs.Stores.{Store, replay}
use Rattle.store_face.specs.Calls.{Among, Committed}
use Rattle.store_face.specs.Tables.{Table}
use Rattle.store_face.specs.Views.{StoreView}
use Rattle.store_face.specs.declared.fault.StoreFault.{StoreFault}
use Rattle.store_face.specs.declared.fault.StoreFault.TheVariants.{Disk, BadImage, NoSpace, Worn, NoMemory}
use Rattle.tier_protocol.specs.Moves.{counted_raised, epoch_found, filled, set_at}
use Rattle.tier_protocol.specs.Sound.{IsSound}
use Rattle.tier_protocol.specs.Tiers.{Name, BaseMsg, BaseReply, Flights, Phase, Recs, Tier, TierRec}
use Rattle.tier_join.specs.Group.{Doubt, Memory, TwoMaps, View, ActIsNext, AreLeft, EpochIsNext, IsSoundMemory, ShowsIn, Spells, SpellsDoubt, changed_in, store_in, tier_of, with_act, with_epoch, with_store}
use Rattle.pool_keys.specs.Keys.{record_key, state_key}
use Rattle.pool_keys.specs.Left.{IsLeft}
use Rattle.pool_keys.specs.Values.{IsAtEpoch, IsRecOf, IsStateOf}
use Rattle.tier_join.specs.Promises.{OneMore, with_req}

-- ---- what was read

-- each map that a stop now leaves has this; a live store has one map, so it is what was read of it
abbrev pub Has : StoreView → (Table → Type 0) → Type 0
Has s P = (t : Table) → IsLeft s t → P t

-- the cache has this record of the name, or none
abbrev pub HasRec : View → Name → Option TierRec → Type 0
HasRec v k rec = Has v.cache (λ t. IsRecOf (fin.get t (record_key k)) rec)

-- the base has this state of the name
abbrev pub HasState : View → Name → NameState → Type 0
HasState v k s = Has v.base (λ t. IsStateOf (fin.get t (state_key k)) s)

-- the pair as far as a step sees it: its memory, and one record or none
abbrev pub seen : Memory → Name → Option TierRec → Tier
seen m k rec = tier_of fin.empty m (set_at fin.empty k rec) fin.empty

-- what a move makes of memory
abbrev pub after : (Tier → Tier) → Memory → Memory
after move m =
    let t : Tier = move (tier_of fin.empty m fin.empty fin.empty) in
    record { acts = t.acts; flights = t.flights; net = t.net }

-- ---- a commit

-- what a commit answers
abbrev pub Outcome : Type 0
Outcome = Result (Unit {0}) StoreFault

abbrev pub memory_after : Outcome → (done : Memory) → (left : StoreFault → Memory) → Memory
memory_after (Ok made) done left = done
memory_after (Err fault) done left = left fault

-- only where the disk failed a doubt is left
abbrev pub doubt_after : Outcome → Doubt → Option Doubt
doubt_after (Ok made) d = None
doubt_after (Err Disk) d = Some d
doubt_after (Err (BadImage at)) d = None
doubt_after (Err (NoSpace used need limit)) d = None
doubt_after (Err (Worn limit)) d = None
doubt_after (Err NoMemory) d = None

-- what a commit leaves: the one memory where it is made, the other where it is not, and the doubt
-- where the disk failed; all else is as it was
abbrev pub behind : Pool → (done : Memory) → (left : StoreFault → Memory) → Doubt → Outcome
    → (old new : View) → View
behind pool done left d result old new = record (with_store pool (store_in pool new) old) {
  doubt = doubt_after result d;
  memory = memory_after result done left;
}

-- one commit in a pool
pub record Commits (pool : Pool) (cs : List Change) (done : Memory) (left : StoreFault → Memory)
    (d : Doubt) (result : Outcome) (old new : View) : Type 0 where
  pub committed : Committed cs (store_in pool old) (store_in pool new) result
  pub same : new ≡ behind pool done left d result old new

-- What such a step owes, at each pair of maps that a stop leaves before it: sound pairs where the
-- commit is made, where it is not, and where it is in doubt. Then it promises all that a step
-- promises.
pub record Owes (pool : Pool) (cs : List Change) (done : Memory) (left : StoreFault → Memory)
    (d : Doubt) (result : Outcome) (old : View) : Type 0 where
  pub settled : old.doubt ≡ None
  pub makes : (start : Store) (z : TwoMaps) → AreLeft old z → Spells start old.memory z
      → Spells start done (changed_in pool cs z)
  pub stays : (start : Store) (z : TwoMaps) (fault : StoreFault) → result ≡ Err fault
      → AreLeft old z
      → Spells start old.memory z → Spells start (left fault) z
  -- without the commit memory is as the disk's failure leaves it, and the maps may have it
  pub torn : (start : Store) (z : TwoMaps) → AreLeft old z → Spells start old.memory z
      → Spells start (left Disk) (changed_in pool cs z)
      ⊎ SpellsDoubt start (left Disk) d (changed_in pool cs z)
  pub acts : (start : Store) (z : TwoMaps) → AreLeft old z → Spells start old.memory z
      → ActIsNext (replay start (left Disk).acts) (Some d)
  pub epochs : EpochIsNext (left Disk).net (Some d)
  pub history : OneMore old.memory.acts done.acts
  pub kept : (fault : StoreFault) → result ≡ Err fault → (left fault).acts ≡ old.memory.acts
  -- the same of memory alone
  pub made : IsSoundMemory old.memory → IsSoundMemory done
  pub failed : (fault : StoreFault) → result ≡ Err fault → IsSoundMemory old.memory
      → IsSoundMemory (left fault)

-- ---- memory alone

-- no map of either store changes, and no doubt comes or goes
pub record Rests (old new : View) : Type 0 where
  pub cache : new.cache.moments ≡ old.cache.moments
  pub base : new.base.moments ≡ old.base.moments
  pub doubt : new.doubt ≡ old.doubt

-- What a change of memory owes that rests on what was read: a sound pair at each pair of maps.
pub record OwesMemory (old : View) (m : Memory) : Type 0 where
  pub settled : old.doubt ≡ None
  pub moves : (start : Store) (z : TwoMaps) → AreLeft old z → Spells start old.memory z
      → Spells start m z
  pub acts : m.acts ≡ old.memory.acts
  pub memory : IsSoundMemory old.memory → IsSoundMemory m

-- the memory at other epochs and with other acts
abbrev pub elsewhere : Memory → (m : Memory) → (cache_epoch base_epoch : ℕ) → Memory
elsewhere here m cache_epoch base_epoch = record m {
  acts = here.acts;
  net = record m.net { cache_epoch = cache_epoch; base_epoch = base_epoch };
}

-- What a change of memory owes that may come in a doubt too: a sound pair from each, whatever its
-- records, states and acts, at whatever epoch of the base, and, while the cache is down, at
-- whatever of the cache.
pub record OwesWorlds (old new : Memory) : Type 0 where
  pub acts : new.acts ≡ old.acts
  pub cache : new.net.cache_epoch ≡ old.net.cache_epoch
  pub base : new.net.base_epoch ≡ old.net.base_epoch
  pub down : old.net.phase ≡ Phase.Down → new.net.phase ≡ Phase.Down
  pub moves : (start : Store) (recs : Recs) (base : Store) (there : Memory) (c b : ℕ)
      → (c ≡ old.net.cache_epoch) ⊎ (old.net.phase ≡ Phase.Down)
      → IsSound (tier_of start (elsewhere there old c b) recs base)
      → IsSound (tier_of start (elsewhere there new c b) recs base)
  pub memory : IsSoundMemory old → IsSoundMemory new

-- ---- a store is opened anew

-- it is there, or it is not
abbrev pub FoundOrNot : StoreView → (Table → Type 0) → (there gone : Type 0) → Type 0
FoundOrNot s Is there gone = (Has s Is × there) ⊎ (Has s (λ t. Is t → ⊥) × gone)

-- the name's record, or its state, was read again
abbrev pub ReadAgain : Pool → Name → View → Type 0
ReadAgain Cache name v = (rec : Option TierRec) × HasRec v name rec
ReadAgain Base name v = (s : NameState) × HasState v name s

-- a pool's store is another, no commit is in doubt, and memory is this
abbrev pub settled : Pool → (old new : View) → Memory → View
settled pool old new m =
    record (with_store pool (store_in pool new) old) { doubt = None; memory = m }

-- A doubt is settled by reading its key again. An act that is there enters the history; an epoch
-- that is there is the pool's, and that of the cache counts as the raise that was needed.
abbrev pub Settles : Doubt → (old new : View) → Type 0
Settles (Doubt.Plain pool name) old new =
    ReadAgain pool name new × (new ≡ settled pool old new old.memory)
Settles (Doubt.Act pool q seq) old new =
    FoundOrNot (store_in pool new) (ShowsIn pool q.name seq)
    (new ≡ settled pool old new (with_act q old.memory)) (new ≡ settled pool old new old.memory)
Settles (Doubt.Epoch Cache e) old new =
    FoundOrNot new.cache (IsAtEpoch e)
    (new ≡ settled Cache old new (after (λ t. counted_raised (epoch_found e t)) old.memory))
    (new ≡ settled Cache old new old.memory)
Settles (Doubt.Epoch Base e) old new =
    FoundOrNot new.base (IsAtEpoch e) (new ≡ settled Base old new (with_epoch Base e old.memory))
    (new ≡ settled Base old new old.memory)

-- the pool that a doubt is about
abbrev pub pool_of : Doubt → Pool
pool_of (Doubt.Plain pool name) = pool
pool_of (Doubt.Act pool q seq) = pool
pool_of (Doubt.Epoch pool e) = pool

-- A store is opened anew: it has one of the maps that a stop would have left, and a doubt about it
-- is settled; or not, where the opening or the reading failed. A doubt about the other store
-- stays.
pub record Opens (pool : Pool) (old new : View) : Type 0 where
  pub among : Among (store_in pool old) (store_in pool new)
  pub settles : (new ≡ with_store pool (store_in pool new) old)
      ⊎ ((d : Doubt) × (old.doubt ≡ Some d) × (pool_of d ≡ pool) × Settles d old new)

-- ---- what the steps below commit

-- one key has this value, or none
abbrev pub sets : List ℕ → Option (List ℕ) → List Change
sets key None = Remove key ∷ []
sets key (Some bytes) = Put key bytes ∷ []

-- the one memory where the disk failed, the other where anything else did
abbrev pub unless_disk : (torn kept : Memory) → StoreFault → Memory
unless_disk torn kept Disk = torn
unless_disk torn kept (BadImage at) = kept
unless_disk torn kept (NoSpace used need limit) = kept
unless_disk torn kept (Worn limit) = kept
unless_disk torn kept NoMemory = kept

-- a base that finds no space for a message replies so, with the numbers
abbrev pub no_space : BaseMsg → Memory → StoreFault → Memory
no_space msg m Disk = m
no_space msg m (BadImage at) = m
no_space msg m (NoSpace used need limit) = after (filled msg used need limit) m
no_space msg m (Worn limit) = m
no_space msg m NoMemory = m

-- the numbers of a want of space
abbrev pub IsOver : Outcome → Type 0
IsOver result = (used need limit : ℕ) → result ≡ Err (NoSpace used need limit) → limit < used + need

-- the doubt that the commit of a message leaves, where it would leave this `seq`
abbrev pub doubt_of : BaseMsg → (seq : ℕ) → Doubt
doubt_of (BaseMsg.Fence e) seq = Doubt.Epoch Base e
doubt_of (BaseMsg.GetChunk e op k at) seq = Doubt.Plain Base k
doubt_of (BaseMsg.Look e op k v) seq = Doubt.Plain Base k
doubt_of (BaseMsg.Write e op r) seq = Doubt.Act Base r seq
doubt_of (BaseMsg.Install e op k s) seq = Doubt.Plain Base k

-- what a message that changes the base makes of the plain store
abbrev pub act_of : BaseMsg → Store → Store
act_of (BaseMsg.Fence e) store = store
act_of (BaseMsg.GetChunk e op k at) store = store
act_of (BaseMsg.Look e op k v) store = store
act_of (BaseMsg.Write e op r) store = with_req r store
act_of (BaseMsg.Install e op k s) store = store

-- what the base read for a message: the state of its name; a Fence is about none
abbrev pub HasStateFor : View → Option Name → NameState → Type 0
HasStateFor v None s = Unit {0}
HasStateFor v (Some k) s = HasState v k s

-- the plain store with the act in doubt, where there is one
abbrev pub with_doubt : Option Doubt → Store → Store
with_doubt None store = store
with_doubt (Some (Doubt.Plain pool name)) store = store
with_doubt (Some (Doubt.Act pool q seq)) store = with_req q store
with_doubt (Some (Doubt.Epoch pool e)) store = store

-- the name that a message is about; a Fence is about none
abbrev pub subject : BaseMsg → Name
subject (BaseMsg.Fence e) = []
subject (BaseMsg.GetChunk e op k at) = k
subject (BaseMsg.Look e op k v) = k
subject (BaseMsg.Write e op r) = r.name
subject (BaseMsg.Install e op k s) = k

-- what the cache read for a message that it sends: the record of which an Install has the state
abbrev pub HasRecFor : View → BaseMsg → Option TierRec → Type 0
HasRecFor v (BaseMsg.Fence e) rec = Unit {0}
HasRecFor v (BaseMsg.GetChunk e op k at) rec = Unit {0}
HasRecFor v (BaseMsg.Look e op k w) rec = Unit {0}
HasRecFor v (BaseMsg.Write e op r) rec = Unit {0}
HasRecFor v (BaseMsg.Install e op k s) rec = HasRec v k rec

-- memory with this work, these messages and these replies
abbrev pub left_with : Flights → List BaseMsg → List BaseReply → Memory → Memory
left_with flights wire replies m =
    record m { flights = flights; net = record m.net { wire = wire; replies = replies } }
