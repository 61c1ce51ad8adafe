-- What is proved of the steps.
use Rattle.std.specs.Prelude.{◌≡◌, ◌<◌, ℕ, Bool, true, false, List, [], ◌∷◌, ◌++◌, Option, Some, None}
use Rattle.std.specs.FinMap as fin
use Rattle.copy_chunk.specs.declared.chunk.Chunk.{Chunk}
use Rattle.obj_model.specs.Names.{name_fault}
use Rattle.obj_model.specs.declared.change.Change.{Change}
use Rattle.obj_model.specs.declared.change.Pool.{Pool}
use Rattle.obj_model.specs.declared.change.Pool.TheVariants.{Cache, Base}
use Rattle.obj_model.specs.declared.reply.Reply.{Reply}
use Rattle.obj_model.specs.declared.req.Req.{Req}
use Rattle.obj_model.specs.declared.state.NameState.{NameState}
use Rattle.obj_ops.specs.declared.request.Acted.TheVariants.{Fresh}
use Rattle.obj_ops.specs.Acts.{act}
use Rattle.obj_ops.specs.Stores.{Store, replay}
use Rattle.rec_codec.specs.Spelling.{SpellsState}
use Rattle.store_face.specs.Calls.{Among, Reopened}
use Rattle.store_face.specs.Views.{Holds, Sound, StoreView}
use Rattle.store_face.specs.declared.fault.StoreFault.{StoreFault}
use Rattle.tier_types.specs.Flights.{IsLeftOf}
use Rattle.tier_types.specs.Serving.{Served, epoch_in, name_in, replies, served}
use Rattle.tier_protocol.specs.Moves.{acted_here, begun, cleaned, drained, evicted, gathered, landed, promoted, raised_to, sent, stopped_base, stopped_cache, went_up, with_flight, with_served, MayActHere, MayBegin, MayClean, MayEvict, MayGather, MayGoUp, MayLand, MayPromote, MaySend}
use Rattle.tier_protocol.specs.Tiers.{Name, Ask, AreIn, BaseActed, BaseMsg, BaseReply, Flight, Flights, IsIn, Phase, TierRec}
use Rattle.tier_join.specs.Group.{Doubt, Memory, View, BeganAt, BothTell, IsGroup, store_now}
use Rattle.pool_keys.specs.Keys.{epoch_key, record_key, state_key}
use Rattle.pool_keys.specs.Values.{IsRecOf, IsStateOf, SpellsEpoch}
use Rattle.tier_join.specs.Promises.{Promises, as_it_is, with_req}
use Rattle.tier_join.specs.Steps.{Commits, HasRec, HasRecFor, HasState, HasStateFor, IsOver, Opens, Outcome, Owes, OwesMemory, OwesWorlds, Rests, act_of, after, doubt_of, left_with, no_space, seen, sets, subject, unless_disk, with_doubt}

-- ---- all steps

-- what holds of the group goes on
abbrev pub GroupsGoOn : Type 0
GroupsGoOn = (other : Store → Store) (v w : View) → Promises other v w → IsGroup v → IsGroup w

-- steps one after another
abbrev pub AreSteps : View → List View → Type 0
AreSteps v [] = Unit {0}
AreSteps v (w ∷ ws) = ((other : Store → Store) × Promises other v w) × AreSteps w ws

-- So it holds in each moment of every run of steps; a store at which the group began stays one, and
-- no act of the history is forgotten or changed.
abbrev pub RunsGoOn : Type 0
RunsGoOn =
    (v : View) (ws : List View) → AreSteps v ws → (w : View) → IsIn w ws
    → (IsGroup v → IsGroup w) × ((start : Store) → BothTell v → BeganAt start v → BeganAt start w)
    × ((more : List Req) × (w.memory.acts ≡ v.memory.acts ++ more))

-- a commit that has at each pair of maps what it owes
abbrev pub CommitsPromise : Type 0
CommitsPromise =
    (pool : Pool) (cs : List Change) (done : Memory) (left : StoreFault → Memory) (d : Doubt)
    (result : Outcome)
    (v w : View) (other : Store → Store)
    → ((start : Store) → replay start done.acts ≡ other (store_now start v))
    → Owes pool cs done left d result v → Commits pool cs done left d result v w
    → Promises other v w

-- the same of a change of memory that rests on what was read, and of one that may come in a doubt
abbrev pub MemoryPromises : Type 0
MemoryPromises = (v w : View) → OwesMemory v w.memory → Rests v w → Promises as_it_is v w

abbrev pub WorldsPromise : Type 0
WorldsPromise = (v w : View) → OwesWorlds v.memory w.memory → Rests v w
    → Promises (with_doubt v.doubt) v w

-- memory may change before a step and behind it
abbrev pub StepsJoin : Type 0
StepsJoin =
    ((other again : Store → Store) (v w u : View) → Promises other v w → Rests w u
    → Promises again w u → u.memory.acts ≡ w.memory.acts → Promises other v u)
    × ((other again : Store → Store) (v w u : View) → w.memory.acts ≡ v.memory.acts → Rests v w
    → Promises again v w → Promises other w u → Promises other v u)

-- A live store has one map, so what was read of it is in each map that a stop leaves: a record, or
-- a state.
abbrev pub ReadingsHold : Type 0
ReadingsHold =
    ((v : View) (k : Name) (rec : Option TierRec) → Sound v.cache → v.cache.live ≡ true
    → Holds v.cache (λ t. IsRecOf (fin.get t (record_key k)) rec) → HasRec v k rec)
    × ((v : View) (k : Name) (s : NameState) → Sound v.base → v.base.live ≡ true
    → Holds v.base (λ t. IsStateOf (fin.get t (state_key k)) s) → HasState v k s)

-- ---- commits of the cache

-- a request acts on a record
abbrev pub ActingPromises : Type 0
ActingPromises =
    (v w : View) (rec : Option TierRec) (r : TierRec) (q : Req) (s : NameState) (answer : Reply)
    (moment : ℕ)
    (o : Option (List ℕ)) (result : Outcome)
    → v.doubt ≡ None → HasRec v q.name rec → MayActHere (seen v.memory q.name rec) r q s answer
    → name_fault q.name ≡ None
    → IsRecOf o (Some (record { state = s; dirty = true; mtime = moment }))
    → Commits Cache (sets (record_key q.name) o) (after (acted_here q s moment) v.memory)
    (unless_disk v.memory v.memory)
    (Doubt.Act Cache q s.seq) result v w
    → Promises (with_req q) v w

-- a promotion ends with a clean record
abbrev pub PromotingPromises : Type 0
PromotingPromises =
    (v w : View) (k : Name) (call op : ℕ) (gather : List Chunk) (ask : Ask) (s : NameState)
    (moment : ℕ)
    (o : Option (List ℕ)) (result : Outcome)
    → v.doubt ≡ None → MayPromote (seen v.memory k None) k call op gather ask s
    → name_fault k ≡ None → IsRecOf o (Some (record { state = s; dirty = false; mtime = moment }))
    → Commits Cache (sets (record_key k) o) (after (promoted k s moment) v.memory)
    (unless_disk (after (with_flight k None) v.memory) v.memory) (Doubt.Plain Cache k) result v w
    → Promises as_it_is v w

-- a promotion ends, and its request acts at once, in one commit
abbrev pub PromotingActsPromises : Type 0
PromotingActsPromises =
    (v w : View) (q : Req) (call op : ℕ) (gather : List Chunk) (ask : Ask) (b s : NameState)
    (answer : Reply)
    (moment : ℕ) (o : Option (List ℕ)) (result : Outcome)
    → v.doubt ≡ None → MayPromote (seen v.memory q.name None) q.name call op gather ask b
    → act b q ≡ Fresh s answer
    → name_fault q.name ≡ None
    → IsRecOf o (Some (record { state = s; dirty = true; mtime = moment }))
    → Commits Cache (sets (record_key q.name) o)
    (after (λ t. acted_here q s moment (promoted q.name b moment t)) v.memory)
    (unless_disk (after (with_flight q.name None) v.memory) v.memory)
    (Doubt.Act Cache q s.seq) result v w
    → Promises (with_req q) v w

-- a flush ends with a clean record; or, where the cache is drained, with none
abbrev pub CleaningPromises : Type 0
CleaningPromises =
    (v w : View) (rec : Option TierRec) (k : Name) (call : Option ℕ) (op seq m : ℕ)
    (blocking drain : Bool)
    (r : TierRec) (o : Option (List ℕ)) (result : Outcome)
    → v.doubt ≡ None → HasRec v k rec
    → MayClean (seen v.memory k rec) k call op seq m blocking drain r
    → name_fault k ≡ None → IsRecOf o (Some (record r { dirty = false }))
    → Commits Cache (sets (record_key k) o) (after (cleaned k r) v.memory)
    (unless_disk (after (with_flight k None) v.memory) v.memory) (Doubt.Plain Cache k) result v w
    → Promises as_it_is v w

abbrev pub DrainingPromises : Type 0
DrainingPromises =
    (v w : View) (rec : Option TierRec) (k : Name) (call : Option ℕ) (op seq m : ℕ)
    (blocking drain : Bool)
    (r : TierRec) (result : Outcome)
    → v.doubt ≡ None → HasRec v k rec
    → MayClean (seen v.memory k rec) k call op seq m blocking drain r
    → name_fault k ≡ None
    → Commits Cache (sets (record_key k) None) (after (drained k) v.memory)
    (unless_disk (after (with_flight k None) v.memory) v.memory) (Doubt.Plain Cache k) result v w
    → Promises as_it_is v w

-- a clean record is evicted
abbrev pub EvictingPromises : Type 0
EvictingPromises =
    (v w : View) (rec : Option TierRec) (k : Name) (result : Outcome)
    → v.doubt ≡ None → HasRec v k rec → MayEvict (seen v.memory k rec) k → name_fault k ≡ None
    → Commits Cache (sets (record_key k) None) (after (evicted k) v.memory)
    (unless_disk v.memory v.memory)
    (Doubt.Plain Cache k) result v w
    → Promises as_it_is v w

-- the cache's epoch is raised above both, while the cache is down
abbrev pub RaisingPromises : Type 0
RaisingPromises =
    (v w : View) (e : ℕ) (bytes : List ℕ) (result : Outcome)
    → v.doubt ≡ None → v.memory.net.phase ≡ Phase.Down → v.memory.net.cache_epoch < e
    → v.memory.net.base_epoch < e → SpellsEpoch bytes e
    → Commits Cache (sets epoch_key (Some bytes)) (after (raised_to e) v.memory)
    (unless_disk v.memory v.memory)
    (Doubt.Epoch Cache e) result v w
    → Promises as_it_is v w

-- ---- messages that the base is given

-- A message that changes nothing in the base is answered by what was read there; for one of another
-- epoch nothing has to be read.
abbrev pub AnsweringPromises : Type 0
AnsweringPromises =
    (v w : View) (msg : BaseMsg) (s : NameState) (out : Served)
    → v.doubt ≡ None → IsIn msg v.memory.net.wire
    → (epoch_in msg ≡ v.memory.net.base_epoch → HasStateFor v (name_in msg) s)
    → served v.memory.net.base_epoch s msg ≡ out → out.put ≡ None
    → out.epoch ≡ v.memory.net.base_epoch
    → Rests v w → w.memory ≡ after (with_served msg out) v.memory → Promises as_it_is v w

-- A message that puts a state: a Write that acts, or an Install of more requests. Where there is
-- no space for the commit the base replies so.
abbrev pub PuttingPromises : Type 0
PuttingPromises =
    (v w : View) (msg : BaseMsg) (k : Name) (s t : NameState) (out : Served) (bytes : List ℕ)
    (result : Outcome)
    → v.doubt ≡ None → IsIn msg v.memory.net.wire → name_in msg ≡ Some k → HasState v k s
    → served v.memory.net.base_epoch s msg ≡ out → out.put ≡ Some t
    → out.epoch ≡ v.memory.net.base_epoch
    → name_fault k ≡ None → SpellsState bytes t → IsOver result
    → Commits Base (sets (state_key k) (Some bytes)) (after (with_served msg out) v.memory)
    (no_space msg v.memory)
    (doubt_of msg t.seq) result v w
    → Promises (act_of msg) v w

-- a Fence of a later epoch
abbrev pub FencingPromises : Type 0
FencingPromises =
    (v w : View) (e : ℕ) (bytes : List ℕ) (result : Outcome)
    → v.doubt ≡ None → IsIn (BaseMsg.Fence e) v.memory.net.wire → v.memory.net.base_epoch < e
    → SpellsEpoch bytes e → IsOver result
    → Commits Base (sets epoch_key (Some bytes))
    (after (with_served (BaseMsg.Fence e) (replies e (BaseReply.Fenced e))) v.memory)
    (no_space (BaseMsg.Fence e) v.memory) (Doubt.Epoch Base e) result v w
    → Promises as_it_is v w

-- ---- memory alone

-- work begins
abbrev pub BeginningPromises : Type 0
BeginningPromises =
    (v w : View) (k : Name) (f : Flight) (rec : Option TierRec)
    → v.doubt ≡ None → HasRec v k rec → v.memory.net.phase ≡ Phase.Up
    → MayBegin (seen v.memory k rec) k f
    → Rests v w → w.memory ≡ after (begun k f) v.memory → Promises as_it_is v w

-- work sends its message, at first or again; or a Fence is sent
abbrev pub SendingPromises : Type 0
SendingPromises =
    (v w : View) (msg : BaseMsg) (rec : Option TierRec)
    → v.doubt ≡ None → HasRecFor v msg rec → MaySend (seen v.memory (subject msg) rec) msg
    → Rests v w → w.memory ≡ after (sent msg) v.memory → Promises as_it_is v w

-- a promotion takes the chunk that it wants
abbrev pub GatheringPromises : Type 0
GatheringPromises =
    (v w : View) (k : Name) (call op : ℕ) (gather : List Chunk) (ask : Ask) (x : Chunk)
    → v.doubt ≡ None → MayGather (seen v.memory k None) k call op gather ask x
    → Rests v w → w.memory ≡ after (gathered k call op gather ask x) v.memory
    → Promises as_it_is v w

-- a proxied write lands
abbrev pub LandingPromises : Type 0
LandingPromises =
    (v w : View) (k : Name) (driver : Option ℕ) (owner op : ℕ) (r : Req) (a : BaseActed)
    → v.doubt ≡ None → MayLand (seen v.memory k None) k driver owner op r a
    → Rests v w → w.memory ≡ after (landed k) v.memory → Promises as_it_is v w

-- ---- what may come at any moment, in a doubt too

-- messages and replies are lost, or lie in another order; calls end, and drop or leave their work
abbrev pub LosingPromises : Type 0
LosingPromises =
    (v w : View) (flights : Flights) (wire : List BaseMsg) (replies : List BaseReply)
    → ((n : Name) → IsLeftOf (fin.get v.memory.flights n) (fin.get flights n))
    → AreIn wire v.memory.net.wire → AreIn replies v.memory.net.replies
    → Rests v w → w.memory ≡ left_with flights wire replies v.memory
    → Promises (with_doubt v.doubt) v w

-- either pool stops
abbrev pub StoppingPromises : Type 0
StoppingPromises =
    (v w : View) → Rests v w
    → (w.memory ≡ after stopped_cache v.memory → Promises (with_doubt v.doubt) v w)
    × (w.memory ≡ after stopped_base v.memory → Promises (with_doubt v.doubt) v w)

-- Fenced of the cache's epoch is received
abbrev pub GoingUpPromises : Type 0
GoingUpPromises =
    (v w : View) → MayGoUp v.memory.net → Rests v w → w.memory ≡ after went_up v.memory
    → Promises (with_doubt v.doubt) v w

-- ---- a store is opened anew

-- whatever a reopening answers, each moment since leaves what was left before
abbrev pub ReopeningsAreAmong : Type 0
ReopeningsAreAmong = (old new : StoreView) (result : Outcome) → Reopened old new result
    → Among old new

-- The opening of either pool's store, that went well or not, with each kind of doubt, its own or
-- the other pool's, settled the one way or the other.
abbrev pub OpeningPromises : Type 0
OpeningPromises = (pool : Pool) (v w : View) → Opens pool v w → Promises (with_doubt v.doubt) v w
