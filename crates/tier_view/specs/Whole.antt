-- What always holds of a group, part by part.
use Rattle.std.specs.Prelude.{◌≡◌, ◌≢◌, ◌≤◌, ◌<◌, ◌⊎◌, ℕ, ◌+◌, Bool, true, false, List, [], ◌∷◌, length, map, Option, Some, None}
use Rattle.std.specs.FinMap as fin
use Rattle.std.specs.List.{AllByRecursion}
use Rattle.agent_state.specs.declared.totals.Share.{Share}
use Rattle.obj_model.specs.declared.change.Pool.{Pool}
use Rattle.obj_model.specs.declared.change.Pool.TheVariants.{Cache, Base}
use Rattle.obj_model.specs.declared.tier.Kind.{Kind}
use Rattle.obj_ops.specs.Stores.{Store}
use Rattle.pool_keys.specs.Left.{IsLeft}
use Rattle.pool_keys.specs.Maps.{SpellsCache}
use Rattle.store_face.specs.Tables.{Table}
use Rattle.tier_chron.specs.Calls.{call_of}
use Rattle.tier_chron.specs.Shapes.{IsShaped}
use Rattle.tier_chron.specs.declared.answer.Answer.{Answer}
use Rattle.tier_chron.specs.declared.answer.Answer.TheVariants as answer
use Rattle.tier_chron.specs.declared.asked.Asked.{Asked}
use Rattle.tier_chron.specs.declared.asked.Asked.TheVariants.{Write, Read, Flush, Finish, Evict}
use Rattle.tier_chron.specs.declared.entries.Logged.{Logged}
use Rattle.tier_join.specs.Group.{BothTell, IsRemembered}
use Rattle.tier_protocol.specs.Tiers.{BaseMsg, Name, Phase, Recs, TierRec, IsIn}
use Rattle.tier_rec.specs.Records.{totals_over}
use Rattle.tier_view.specs.Agents.{Agents}
use Rattle.tier_view.specs.Calls.{Calls, Entry, Flown, IsInFlight, entry_of}
use Rattle.tier_view.specs.Standing.{Standing}
use Rattle.tier_view.specs.Stores.{Pending, Stores}
use Rattle.tier_view.specs.Tables.{SoundCalls, SoundFlights}
use Rattle.tier_view.specs.Traffic.{Owner, Traffic}
use Rattle.tier_view.specs.Views.{GroupView, asking_of, calls_in, joined}
use Rattle.tier_view.specs.Worlds.{Began, MayPend}

-- ---- messages and replies

-- a Write has an owner, who asked its request on that line; no other message has one
abbrev pub HasOwner : List Entry → BaseMsg → Option Owner → Type 0
HasOwner entries (BaseMsg.Write e op r) None = ⊥
HasOwner entries (BaseMsg.Write e op r) (Some o) =
    asking_of (call_of (calls_in entries) o.call) ≡ Some (record { line = o.line; req = r })
HasOwner entries message owner = owner ≡ None

-- the newest first, each under a number below the next
abbrev pub AreNumbered : (next : ℕ) → List ℕ → Type 0
AreNumbered next [] = Unit {0}
AreNumbered next (n ∷ ns) = (n < next) × AreNumbered n ns

-- Messages and replies have numbers of their own; each reply answers a message that was sent; and
-- each Write has its owner.
pub record SoundTraffic (entries : List Entry) (t : Traffic) : Type 0 where
  pub messages : AreNumbered t.next_message (map (λ s. s.number) t.messages)
  pub replies : AreNumbered t.next_reply (map (λ r. r.number) t.replies)
  pub answers : AllByRecursion (λ r. r.answers < t.next_message) t.replies
  pub owned : AllByRecursion (λ s. HasOwner entries s.message s.owner) t.messages
  pub begun : AllByRecursion (λ b. b.message < t.next_message) t.begun
  pub awaited : AllByRecursion (λ a. IsInFlight entries a.call × (a.message < t.next_message))
      t.awaited

-- ---- the causes of answers

-- the name that a call which may be blocked asked for
abbrev pub AsksOf : Name → Asked → Type 0
AsksOf name (Write r) = r.name ≡ name
AsksOf name (Read client n vector) = n ≡ name
AsksOf name (Flush n blocking begin_only) = n ≡ name
AsksOf name (Evict n) = n ≡ name
AsksOf name asked = ⊥

abbrev pub AsksFor : Name → Option Entry → Type 0
AsksFor name None = ⊥
AsksFor name (Some e) = AsksOf name e.asked

-- it stood when the answer of this number was logged
abbrev pub StoodAt : (i came : ℕ) → (went : Option ℕ) → Type 0
StoodAt i came None = came ≤ i
StoodAt i came (Some went) = (came ≤ i) × (i < went)

-- work of this kind and number, on the name that the call asked for and of another call, stood when
-- the answer was logged
pub record WasBlocked (i : ℕ) (calls : Calls) (l : Logged) (k : Kind) (op : ℕ) : Type 0 where
  pub work : Flown
  pub on : IsIn work calls.flown
  pub kind : work.kind ≡ k
  pub opid : work.opid ≡ op
  pub name : AsksFor work.name (entry_of calls.entries l.call)
  pub other : work.call ≢ l.call
  pub stood : StoodAt i work.came work.went

-- the epoch of a call's first step; of a finish, that of a flush of its name that was begun alone
abbrev pub BeganIn : List Entry → (epoch : ℕ) → Asked → (was : ℕ) → Type 0
BeganIn entries epoch (Finish name) was =
    (b : Entry) × IsIn b entries
    × ((blocking : Bool) × (b.asked ≡ Flush name blocking true)) × (b.epoch ≡ was)
BeganIn entries epoch asked was = epoch ≡ was

abbrev pub IsFirstEpoch : List Entry → Option Entry → (was : ℕ) → Type 0
IsFirstEpoch entries None was = ⊥
IsFirstEpoch entries (Some e) was = BeganIn entries e.epoch e.asked was

-- the share of a target is not 0
abbrev pub HasTarget : Share → Type 0
HasTarget s = (s.objects ≢ 0) ⊎ (s.bytes ≢ 0)

-- What an answer says of the group was so: the i-th answer, from 0.
abbrev pub HasCause : (i : ℕ) → Calls → Share → (epoch : ℕ) → Logged → Answer → Type 0
HasCause i calls share epoch l (answer.Blocked k opid) = WasBlocked i calls l k opid
HasCause i calls share epoch l (answer.Full micro) = (1000000 < micro) × HasTarget share
HasCause i calls share epoch l (answer.Restarted was now) =
    (was < now) × (now ≤ epoch)
    × IsFirstEpoch calls.entries (entry_of calls.entries l.call) was
HasCause i calls share epoch l other = Unit {0}

abbrev pub HaveCauses : (i : ℕ) → Calls → Share → (epoch : ℕ) → List Logged → Type 0
HaveCauses i calls share epoch [] = Unit {0}
HaveCauses i calls share epoch (l ∷ ls) =
    HasCause i calls share epoch l l.answer × HaveCauses (i + 1) calls share epoch ls

-- whether an answer tells that this pool's disk failed
abbrev pub tells_fault : Pool → Answer → ℕ
tells_fault Cache (answer.DiskFault Cache) = 1
tells_fault Base (answer.DiskFault Base) = 1
tells_fault pool other = 0

abbrev pub faults_told : Pool → List Logged → ℕ
faults_told pool [] = 0
faults_told pool (l ∷ ls) = tells_fault pool l.answer + faults_told pool ls

-- a pool's disk failed at least as often as answers tell
pub record AreCounted (stores : Stores) (answers : List Logged) : Type 0 where
  pub cache : faults_told Cache answers ≤ stores.cache.faults
  pub base : faults_told Base answers ≤ stores.base.faults

-- ---- stops, and readiness

-- a cache that was stopped is down; a base that was stopped has not told its epoch since
pub record SoundStops (stores : Stores) (standing : Standing) : Type 0 where
  pub cache : stores.cache_stopped ≡ true → standing.phase ≡ Phase.Down
  pub base : stores.base_stopped ≡ true → standing.fenced ≡ false

-- A group is ready where both stores are live and were not stopped, no commit is in doubt, and the
-- base told the epoch that the cache was raised to, since the last stop of either.
pub record IsReady (stores : Stores) (standing : Standing) : Type 0 where
  pub cache : stores.cache.live ≡ true
  pub base : stores.base.live ≡ true
  pub cache_runs : stores.cache_stopped ≡ false
  pub base_runs : stores.base_stopped ≡ false
  pub settled : stores.pending ≡ None
  pub up : standing.phase ≡ Phase.Up
  pub fenced : standing.fenced ≡ true

-- ---- totals

-- the commit in doubt is not this pool's
abbrev pub IsElsewhere : Pool → Option Pending → Type 0
IsElsewhere pool None = Unit {0}
IsElsewhere pool (Some (Pending.Plain other name)) = other ≢ pool
IsElsewhere pool (Some (Pending.Act other first a seq)) = other ≢ pool
IsElsewhere pool (Some (Pending.Epoch other e)) = other ≢ pool

-- the cache's map can be known by what was committed and read
pub record IsKnown (stores : Stores) : Type 0 where
  pub live : stores.cache.live ≡ true
  pub runs : stores.cache_stopped ≡ false
  pub sure : IsElsewhere Cache stores.pending

-- all records of the cache
abbrev pub records_in : Recs → List TierRec
records_in recs = map (λ e. e.1) (fin.entries recs)

-- the totals are the sums over the records of the cache's map
abbrev pub AreSums : Stores → Agents → Type 0
AreSums stores agent =
    IsKnown stores
    → (x : Table) → IsLeft stores.cache x → (recs : Recs) (epoch : ℕ) → SpellsCache x recs epoch
    → agent.totals ≡ totals_over (records_in recs)

-- ---- all of it

pub record IsWhole (v : GroupView) : Type 0 where
  -- what is in memory for the pools, and the wire
  pub memory : IsRemembered (joined v)
  -- where both stores tell, there is a store at which the group began
  pub began : BothTell (joined v) → (start : Store) × Began start v
  -- the history has its shape, over stores that tell nothing too
  pub shaped : IsShaped (calls_in v.calls.entries) v.log
  pub pending : MayPend v.calls.entries v.log v.stores.pending
  pub calls : SoundCalls v.calls v.standing.cache_epoch v.log.answers
  pub flights : SoundFlights v.calls.entries v.calls.flown v.traffic.flights v.traffic.begun
      v.standing.cache_epoch (length v.log.answers)
  pub traffic : SoundTraffic v.calls.entries v.traffic
  pub causes : HaveCauses 0 v.calls v.agent.share v.standing.cache_epoch v.log.answers
  pub counted : AreCounted v.stores v.log.answers
  pub stops : SoundStops v.stores v.standing
  pub totals : AreSums v.stores v.agent
