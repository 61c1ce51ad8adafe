-- No step takes an epoch back: not in memory, and in no map that a stop leaves.
use Rattle.std.specs.Prelude.{◌≡◌, ◌≤◌, ◌<◌, ◌⊎◌, ℕ, List, [], ◌∷◌, Option, Some, None}
use Rattle.copy_chunk.specs.declared.chunk.Chunk.{Chunk}
use Rattle.obj_model.specs.declared.change.Pool.{Pool}
use Rattle.obj_model.specs.declared.change.Pool.TheVariants.{Cache, Base}
use Rattle.obj_model.specs.declared.req.Req.{Req}
use Rattle.obj_model.specs.declared.state.NameState.{NameState}
use Rattle.obj_ops.specs.Stores.{Store}
use Rattle.store_face.specs.Tables.{Table}
use Rattle.store_face.specs.declared.fault.StoreFault.{StoreFault}
use Rattle.tier_types.specs.Serving.{Served, epoch_in, replies, served}
use Rattle.tier_protocol.specs.Moves.{acted_here, begun, cleaned, drained, evicted, gathered, landed, promoted, raised_to, sent, stopped_base, stopped_cache, went_up, with_flight, with_served}
use Rattle.tier_protocol.specs.Rising.{EpochsRise}
use Rattle.tier_protocol.specs.Tiers.{Name, Ask, BaseMsg, BaseReply, Flight, Flights, IsIn, Net, TierRec}
use Rattle.pool_keys.specs.Keys.{epoch_key, record_key, state_key}
use Rattle.pool_keys.specs.Values.{IsAtEpoch, SpellsEpoch}
use Rattle.tier_join.specs.Group.{Doubt, Memory, TwoMaps, View, AreLeft, BeganAt, BothTell, IsRemembered}
use Rattle.tier_join.specs.Promises.{AreLeftSince, Promises}
use Rattle.tier_join.specs.Steps.{Commits, Opens, Outcome, Rests, after, left_with, no_space, sets, unless_disk}

-- a map is at no lower epoch than this
abbrev pub IsAtLeast : ℕ → Table → Type 0
IsAtLeast least t = (e : ℕ) × IsAtEpoch e t × (least ≤ e)

-- each pool's map is at no lower epoch than memory has of the pool
abbrev pub AreAtLeast : Net → TwoMaps → Type 0
AreAtLeast net z = IsAtLeast net.cache_epoch z.cache × IsAtLeast net.base_epoch z.base

-- What a step from old to new promises of epochs, beside `Promises`.
pub record NoEpochFalls (old new : View) : Type 0 where
  -- those of memory do not fall
  pub memory : EpochsRise old.memory.net new.memory.net
  -- and whatever a stop leaves meanwhile is at no lower ones than memory had
  pub maps : (start : Store) → BeganAt start old → (z : TwoMaps) → AreLeftSince old new z
      → AreAtLeast old.memory.net z

-- what a stop leaves now is at no lower epochs than memory has
abbrev pub LeftAreAtLeast : Type 0
LeftAreAtLeast =
    (start : Store) (v : View) (z : TwoMaps) → BeganAt start v → AreLeft v z
    → AreAtLeast v.memory.net z

-- ---- all commits

-- whatever comes of a commit, it leaves memory at no lower epochs
pub record MemoryRises (v : View) (done : Memory) (left : StoreFault → Memory) : Type 0 where
  pub made : EpochsRise v.memory.net done.net
  pub failed : (fault : StoreFault) → EpochsRise v.memory.net (left fault).net

-- the key of a name in a pool
abbrev pub key_in : Pool → Name → List ℕ
key_in Cache k = record_key k
key_in Base k = state_key k

-- the epoch that memory has of a pool
abbrev pub epoch_of : Pool → View → ℕ
epoch_of Cache v = v.memory.net.cache_epoch
epoch_of Base v = v.memory.net.base_epoch

-- a commit under the key of a name; and one of an epoch that is no lower
abbrev pub CommitsRise : Type 0
CommitsRise =
    (pool : Pool) (done : Memory) (left : StoreFault → Memory) (d : Doubt) (result : Outcome)
    (v w : View)
    → MemoryRises v done left
    → ((k : Name) (o : Option (List ℕ))
    → Commits pool (sets (key_in pool k) o) done left d result v w → NoEpochFalls v w)
    × ((e : ℕ) (bytes : List ℕ) → epoch_of pool v ≤ e → SpellsEpoch bytes e
    → Commits pool (sets epoch_key (Some bytes)) done left d result v w → NoEpochFalls v w)

-- a step without a commit
abbrev pub RestsRise : Type 0
RestsRise =
    (v w : View) → EpochsRise v.memory.net w.memory.net → Rests v w → NoEpochFalls v w

-- ---- each step

-- The steps of the laws of `Laws.antt`, by what they commit and what they make of memory. A raise
-- and a Fence commit a later epoch; the others need nothing beside.
pub record StepsRise (v w : View) : Type 0 where
  pub acts : (q : Req) (s : NameState) (moment : ℕ) (o : Option (List ℕ)) (d : Doubt)
      (result : Outcome)
      → Commits Cache (sets (record_key q.name) o) (after (acted_here q s moment) v.memory)
      (unless_disk v.memory v.memory) d result v w → NoEpochFalls v w
  pub promotes : (k : Name) (s : NameState) (moment : ℕ) (o : Option (List ℕ)) (d : Doubt)
      (result : Outcome)
      → Commits Cache (sets (record_key k) o) (after (promoted k s moment) v.memory)
      (unless_disk (after (with_flight k None) v.memory) v.memory) d result v w → NoEpochFalls v w
  pub promotes_and_acts : (q : Req) (b s : NameState) (moment : ℕ) (o : Option (List ℕ))
      (d : Doubt) (result : Outcome)
      → Commits Cache (sets (record_key q.name) o)
      (after (λ t. acted_here q s moment (promoted q.name b moment t)) v.memory)
      (unless_disk (after (with_flight q.name None) v.memory) v.memory) d result v w
      → NoEpochFalls v w
  pub cleans : (k : Name) (r : TierRec) (o : Option (List ℕ)) (d : Doubt) (result : Outcome)
      → Commits Cache (sets (record_key k) o) (after (cleaned k r) v.memory)
      (unless_disk (after (with_flight k None) v.memory) v.memory) d result v w → NoEpochFalls v w
  pub drains : (k : Name) (o : Option (List ℕ)) (d : Doubt) (result : Outcome)
      → Commits Cache (sets (record_key k) o) (after (drained k) v.memory)
      (unless_disk (after (with_flight k None) v.memory) v.memory) d result v w → NoEpochFalls v w
  pub evicts : (k : Name) (o : Option (List ℕ)) (d : Doubt) (result : Outcome)
      → Commits Cache (sets (record_key k) o) (after (evicted k) v.memory)
      (unless_disk v.memory v.memory) d result v w → NoEpochFalls v w
  pub raises : (e : ℕ) (bytes : List ℕ) (d : Doubt) (result : Outcome)
      → v.memory.net.cache_epoch < e → SpellsEpoch bytes e
      → Commits Cache (sets epoch_key (Some bytes)) (after (raised_to e) v.memory)
      (unless_disk v.memory v.memory) d result v w → NoEpochFalls v w
  pub answers : (msg : BaseMsg) (out : Served) → out.epoch ≡ v.memory.net.base_epoch → Rests v w
      → w.memory ≡ after (with_served msg out) v.memory → NoEpochFalls v w
  pub puts : (msg : BaseMsg) (k : Name) (out : Served) (o : Option (List ℕ)) (d : Doubt)
      (result : Outcome)
      → out.epoch ≡ v.memory.net.base_epoch
      → Commits Base (sets (state_key k) o) (after (with_served msg out) v.memory)
      (no_space msg v.memory) d result v w → NoEpochFalls v w
  pub fences : (e : ℕ) (bytes : List ℕ) (d : Doubt) (result : Outcome)
      → v.memory.net.base_epoch < e → SpellsEpoch bytes e
      → Commits Base (sets epoch_key (Some bytes))
      (after (with_served (BaseMsg.Fence e) (replies e (BaseReply.Fenced e))) v.memory)
      (no_space (BaseMsg.Fence e) v.memory) d result v w → NoEpochFalls v w
  pub begins : (k : Name) (f : Flight) → Rests v w → w.memory ≡ after (begun k f) v.memory
      → NoEpochFalls v w
  pub sends : (msg : BaseMsg) → Rests v w → w.memory ≡ after (sent msg) v.memory
      → NoEpochFalls v w
  pub gathers : (k : Name) (call op : ℕ) (gather : List Chunk) (ask : Ask) (x : Chunk) → Rests v w
      → w.memory ≡ after (gathered k call op gather ask x) v.memory → NoEpochFalls v w
  pub lands : (k : Name) → Rests v w → w.memory ≡ after (landed k) v.memory → NoEpochFalls v w
  pub loses : (flights : Flights) (wire : List BaseMsg) (told : List BaseReply) → Rests v w
      → w.memory ≡ left_with flights wire told v.memory → NoEpochFalls v w
  pub stops_cache : Rests v w → w.memory ≡ after stopped_cache v.memory → NoEpochFalls v w
  pub stops_base : Rests v w → w.memory ≡ after stopped_base v.memory → NoEpochFalls v w
  pub goes_up : Rests v w → w.memory ≡ after went_up v.memory → NoEpochFalls v w
  -- a store that is opened anew, with its doubt settled the one way or the other
  pub opens : (pool : Pool) → IsRemembered v → Opens pool v w → NoEpochFalls v w

abbrev pub EachStepRises : Type 0
EachStepRises = (v w : View) → StepsRise v w

-- memory may change before a step and behind it
abbrev pub RisingStepsJoin : Type 0
RisingStepsJoin =
    ((v w u : View) → NoEpochFalls v w → Rests w u → EpochsRise w.memory.net u.memory.net
    → NoEpochFalls v u)
    × ((other : Store → Store) (v w u : View) → BothTell v → Promises other v w → Rests v w
    → EpochsRise v.memory.net w.memory.net → NoEpochFalls w u → NoEpochFalls v u)

-- ---- runs of steps

-- steps one after another, each with what it promises
abbrev pub AreRisingSteps : View → List View → Type 0
AreRisingSteps v [] = Unit {0}
AreRisingSteps v (w ∷ ws) =
    ((other : Store → Store) × Promises other v w) × NoEpochFalls v w × AreRisingSteps w ws

-- one step of a run
abbrev pub IsStepOf : (from to v : View) → List View → Type 0
IsStepOf from to v [] = ⊥
IsStepOf from to v (w ∷ ws) = ((from ≡ v) × (to ≡ w)) ⊎ IsStepOf from to w ws

-- In each step of every run neither memory nor anything that a stop leaves meanwhile is at a lower
-- epoch than memory had when the run began.
abbrev pub EpochsNeverFall : Type 0
EpochsNeverFall =
    (start : Store) (v : View) (ws : List View) (from to : View) → BothTell v → BeganAt start v
    → AreRisingSteps v ws → IsStepOf from to v ws
    → EpochsRise v.memory.net to.memory.net
    × ((z : TwoMaps) → AreLeftSince from to z → AreAtLeast v.memory.net z)

-- So no map that a stop leaves in a step of a run spells a lower epoch than one that a stop would
-- have left when the run began, where no commit was in doubt then.
abbrev pub MapsNeverFall : Type 0
MapsNeverFall =
    (start : Store) (v : View) (ws : List View) (from to : View) → BothTell v → BeganAt start v
    → v.doubt ≡ None → AreRisingSteps v ws → IsStepOf from to v ws
    → (y z : TwoMaps) → AreLeft v y → AreLeftSince from to z
    → ((e : ℕ) → IsAtEpoch e y.cache → IsAtLeast e z.cache)
    × ((e : ℕ) → IsAtEpoch e y.base → IsAtLeast e z.base)

-- A message of a lower epoch than the base's is refused in each later moment of every run, whatever
-- the base has of its name.
abbrev pub OldAnswersStay : Type 0
OldAnswersStay =
    (v : View) (ws : List View) (w : View) (msg : BaseMsg) (s : NameState) → AreRisingSteps v ws
    → IsIn w (v ∷ ws) → epoch_in msg < v.memory.net.base_epoch
    → served w.memory.net.base_epoch s msg
    ≡ replies w.memory.net.base_epoch
    (BaseReply.OldEpoch w.memory.net.base_epoch (epoch_in msg))
