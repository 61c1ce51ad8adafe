-- Two stores and what is in memory beside them: at whatever a stop leaves of the stores, their maps
-- spell a sound pair.
use Rattle.std.specs.Prelude.{◌≡◌, ◌⊎◌, ◌<◌, ℕ, List, [], ◌∷◌, ◌++◌, Option, Some, None}
use Rattle.std.specs.FinMap as fin
use Rattle.obj_model.specs.declared.change.Change.{Change}
use Rattle.obj_model.specs.declared.change.Pool.{Pool}
use Rattle.obj_model.specs.declared.change.Pool.TheVariants.{Cache, Base}
use Rattle.obj_model.specs.declared.reply.Reply.{Reply}
use Rattle.obj_model.specs.declared.req.Req.{Req}
use Rattle.obj_model.specs.declared.state.NameState.{NameState}
use Rattle.obj_ops.specs.declared.request.Acted.TheVariants.{Fresh}
use Rattle.obj_ops.specs.Acts.{act}
use Rattle.obj_ops.specs.Stores.{Store, replay, state_of}
use Rattle.rec_codec.specs.Spelling.{SpellsState, SpellsTier}
use Rattle.store_face.specs.Tables.{Table, changed_by}
use Rattle.store_face.specs.Views.{StoreView}
use Rattle.tier_protocol.specs.Memory.{SoundMemory}
use Rattle.tier_protocol.specs.Sound.{IsSound}
use Rattle.tier_protocol.specs.Tiers.{Name, TierRec, Recs, Flights, Net, Phase, Tier}
use Rattle.pool_keys.specs.Keys.{record_key, state_key}
use Rattle.pool_keys.specs.Left.{IsLeft, Tells}
use Rattle.pool_keys.specs.Maps.{SpellsBase, SpellsCache}
pub use Rattle.tier_join.specs.declared.doubt.Doubt.{Doubt}

-- What is in memory: the requests that acted, the work under way, and the wire. What is kept of
-- calls, and whose act each is, would stand here too; nothing below speaks of it.
pub record Memory : Type 0 where
  pub acts : List Req
  pub flights : Flights
  pub net : Net

-- two stores, the commit in doubt, and what is in memory
pub record View : Type 0 where
  pub cache : StoreView
  pub base : StoreView
  pub doubt : Option Doubt
  pub memory : Memory

-- a map of each pool
pub record TwoMaps : Type 0 where
  pub cache : Table
  pub base : Table

-- ---- parts of these

abbrev pub store_in : Pool → View → StoreView
store_in Cache v = v.cache
store_in Base v = v.base

abbrev pub with_store : Pool → StoreView → View → View
with_store Cache s v = record v { cache = s }
with_store Base s v = record v { base = s }

abbrev pub map_in : Pool → TwoMaps → Table
map_in Cache z = z.cache
map_in Base z = z.base

abbrev pub with_map : Pool → Table → TwoMaps → TwoMaps
with_map Cache t z = record z { cache = t }
with_map Base t z = record z { base = t }

-- the maps, with changes in one pool
abbrev pub changed_in : Pool → List Change → TwoMaps → TwoMaps
changed_in pool cs z = with_map pool (changed_by (map_in pool z) cs) z

-- a stop now may leave these maps
abbrev pub AreLeft : View → TwoMaps → Type 0
AreLeft v z = IsLeft v.cache z.cache × IsLeft v.base z.base

-- both stores tell their maps
abbrev pub BothTell : View → Type 0
BothTell v = Tells v.cache × Tells v.base

-- the memory with one act more
abbrev pub with_act : Req → Memory → Memory
with_act q m = record m { acts = m.acts ++ q ∷ [] }

-- the memory with another epoch of a pool
abbrev pub with_epoch : Pool → ℕ → Memory → Memory
with_epoch Cache e m = record m { net = record m.net { cache_epoch = e } }
with_epoch Base e m = record m { net = record m.net { base_epoch = e } }

-- ---- what two maps spell

-- the pair of these records and states, and this memory
abbrev pub tier_of : Store → Memory → Recs → Store → Tier
tier_of start m recs base = record {
  recs = recs;
  base = base;
  flights = m.flights;
  opening = start;
  acts = m.acts;
  net = m.net;
}

-- The maps spell records and states which, with this memory, are a sound pair. Memory has the
-- epochs of both pools too, and they are those of the maps.
pub record Spells (start : Store) (m : Memory) (z : TwoMaps) : Type 0 where
  pub recs : Recs
  pub base : Store
  pub cached : SpellsCache z.cache recs m.net.cache_epoch
  pub based : SpellsBase z.base base m.net.base_epoch
  pub sound : IsSound (tier_of start m recs base)

-- ---- doubt

-- a value spells a record of this `seq`
abbrev pub HasRecordAt : ℕ → Option (List ℕ) → Type 0
HasRecordAt seq None = ⊥
HasRecordAt seq (Some bytes) = (r : TierRec) × SpellsTier bytes r.state r.dirty r.mtime
    × (r.state.seq ≡ seq)

-- a value spells a state of this `seq`
abbrev pub HasStateAt : ℕ → Option (List ℕ) → Type 0
HasStateAt seq None = ⊥
HasStateAt seq (Some bytes) = (s : NameState) × SpellsState bytes s × (s.seq ≡ seq)

-- a pool's map has this name at this `seq`
abbrev pub ShowsIn : Pool → Name → (seq : ℕ) → Table → Type 0
ShowsIn Cache name seq t = HasRecordAt seq (fin.get t (record_key name))
ShowsIn Base name seq t = HasStateAt seq (fin.get t (state_key name))

-- Maps that have the commit in doubt, where memory has to follow: they show the act, and are a
-- sound pair with it; or a sound pair at the other epoch. To a plain commit memory is the same
-- either way.
abbrev pub SpellsDoubt : Store → Memory → Doubt → TwoMaps → Type 0
SpellsDoubt start m (Doubt.Plain pool name) z = ⊥
SpellsDoubt start m (Doubt.Act pool q seq) z =
    ShowsIn pool q.name seq (map_in pool z) × Spells start (with_act q m) z
SpellsDoubt start m (Doubt.Epoch pool e) z = Spells start (with_epoch pool e m) z

abbrev pub SpellsAny : Store → Memory → Option Doubt → TwoMaps → Type 0
SpellsAny start m None z = ⊥
SpellsAny start m (Some d) z = SpellsDoubt start m d z

-- an act in doubt would act on the plain store, and leave its name with this `seq`
abbrev pub ActIsNext : (plain : Store) → Option Doubt → Type 0
ActIsNext plain None = Unit {0}
ActIsNext plain (Some (Doubt.Plain pool name)) = Unit {0}
ActIsNext plain (Some (Doubt.Act pool q seq)) =
    (s : NameState) × (answer : Reply) × (act (state_of plain q.name) q ≡ Fresh s answer)
    × (s.seq ≡ seq)
ActIsNext plain (Some (Doubt.Epoch pool e)) = Unit {0}

-- an epoch in doubt is a later one; that of the cache is above both, and the cache is down
-- meanwhile
abbrev pub EpochIsNext : Net → Option Doubt → Type 0
EpochIsNext net None = Unit {0}
EpochIsNext net (Some (Doubt.Plain pool name)) = Unit {0}
EpochIsNext net (Some (Doubt.Act pool q seq)) = Unit {0}
EpochIsNext net (Some (Doubt.Epoch Cache e)) =
    (net.cache_epoch < e) × (net.base_epoch < e) × (net.phase ≡ Phase.Down)
EpochIsNext net (Some (Doubt.Epoch Base e)) = net.base_epoch < e

-- ---- the group

-- the plain store: the one at the beginning, and then each act in turn
abbrev pub store_now : Store → View → Store
store_now start v = replay start v.memory.acts

-- these maps spell a sound pair with the memory, without the commit in doubt or with it
abbrev pub Within : Store → View → TwoMaps → Type 0
Within start v z = Spells start v.memory z ⊎ SpellsAny start v.memory v.doubt z

-- The group began at this store: whatever a stop now leaves of the one store, with whatever it
-- leaves of the other, is within.
pub record BeganAt (start : Store) (v : View) : Type 0 where
  pub holds : (z : TwoMaps) → AreLeft v z → Within start v z
  pub acts : ActIsNext (store_now start v) v.doubt
  pub epochs : EpochIsNext v.memory.net v.doubt

-- the work under way and the wire are sound
abbrev pub IsSoundMemory : Memory → Type 0
IsSoundMemory m = SoundMemory m.flights m.net

-- what holds of memory alone, over stores that tell nothing too
pub record IsRemembered (v : View) : Type 0 where
  pub sound : IsSoundMemory v.memory
  pub epochs : EpochIsNext v.memory.net v.doubt

-- The group's invariant: its memory is sound, and where both stores tell their maps there is a
-- store at which it began.
pub record IsGroup (v : View) : Type 0 where
  pub memory : IsRemembered v
  pub began : BothTell v → (start : Store) × BeganAt start v
