-- Commits of the cache: a request acts on a record; a record goes, is marked clean, or comes.
use Rattle.std.specs.Prelude.{◌≡◌, ◌⊎◌, ℕ, Bool, true, false, List, length, Option, Some, None, Ok, Err}
use Rattle.std.specs.FinMap as fin
use Rattle.agent_state.specs.Modes.{AreTotals}
use Rattle.copy_chunk.specs.Gathers.{joined as gathered}
use Rattle.copy_chunk.specs.declared.chunk.Chunk.{Chunk}
use Rattle.obj_model.specs.Names.{name_fault}
use Rattle.obj_model.specs.declared.change.Pool.TheVariants.{Cache}
use Rattle.obj_model.specs.declared.reply.Reply.{Reply}
use Rattle.obj_model.specs.declared.req.Req.{Req}
use Rattle.obj_model.specs.declared.state.NameState.{NameState}
use Rattle.obj_model.specs.declared.sub_op.SubOp.{SubOp}
use Rattle.obj_ops.specs.Acts.{act}
use Rattle.obj_ops.specs.Stores.{Store}
use Rattle.obj_ops.specs.declared.request.Acted.TheVariants.{Fresh}
use Rattle.pool_keys.specs.Keys.{record_key}
use Rattle.pool_keys.specs.Left.{IsLeft}
use Rattle.pool_keys.specs.Maps.{SpellsCache}
use Rattle.pool_keys.specs.Values.{IsRecOf}
use Rattle.store_face.specs.Calls.{Committed, Fails, Stays}
use Rattle.store_face.specs.Tables.{Table}
use Rattle.store_face.specs.Views.{Sound, StoreView}
use Rattle.store_face.specs.declared.fault.StoreFault.TheVariants.{Disk, BadImage, NoSpace, Worn, NoMemory}
use Rattle.tier_chron.specs.Fits.{TellsRead, TellsWrite}
use Rattle.tier_chron.specs.Logs.{acted_log}
use Rattle.tier_chron.specs.Places.{act_at, state_at}
use Rattle.tier_chron.specs.Shapes.{HasNoAct}
use Rattle.tier_flight.specs.Busy.{busy_at}
use Rattle.tier_flight.specs.declared.busy.Want.TheVariants as want
use Rattle.tier_chron.specs.declared.answer.Answer.{Answer}
use Rattle.tier_chron.specs.declared.entries.Act.{Act}
use Rattle.tier_chron.specs.declared.entries.First.{First}
use Rattle.tier_chron.specs.declared.entries.Logged.{Logged}
use Rattle.tier_join.specs.Group.{BothTell}
use Rattle.tier_join.specs.Promises.{as_it_is, with_req}
use Rattle.tier_join.specs.Steps.{HasRec, Outcome, sets}
use Rattle.tier_protocol.specs.Moves.{set_at}
use Rattle.tier_protocol.specs.Tiers.{Ask, BaseReply, Flight, IsIn, Name, Phase, Recs, TierRec}
use Rattle.tier_rec.specs.Records.{acted_record, clean_record, totals_after, totals_over}
use Rattle.tier_types.specs.Flights.{is_bare, lets_write}
use Rattle.tier_view.specs.Agents.{Agents}
use Rattle.tier_view.specs.Calls.{IsInFlight}
use Rattle.tier_view.specs.Changes.{gone_in}
use Rattle.tier_view.specs.Delivers.{IsFirstOf}
use Rattle.tier_view.specs.Laws.{HasAsked, Keeps}
use Rattle.tier_view.specs.Stores.{Pending}
use Rattle.tier_view.specs.Views.{GroupView, joined}
use Rattle.tier_view.specs.Whole.{IsWhole, records_in}
use Rattle.tier_view.specs.Worlds.{Began}

-- ---- the sums over the records

-- where one record, or none, gives place to another, the sums follow
abbrev pub SumsFollow : Type 0
SumsFollow =
    (recs : Recs) (k : Name) (old new : Option TierRec)
    → AreTotals (totals_over (records_in (set_at recs k new)))
    → totals_after (totals_over (records_in (set_at recs k old))) old new
    ≡ totals_over (records_in (set_at recs k new))

-- the sums over each map that is left are within their limit
abbrev pub AreFew : StoreView → Type 0
AreFew s =
    (x : Table) → IsLeft s x → (recs : Recs) (epoch : ℕ) → SpellsCache x recs epoch
    → AreTotals (totals_over (records_in recs))

-- so it is of a live store
abbrev pub SoundIsFew : Type 0
SoundIsFew = (s : StoreView) → Sound s → s.live ≡ true → AreFew s

-- ---- a commit of one record

-- the cache's store is this, with a doubt or none
abbrev pub with_cache : StoreView → Option Pending → GroupView → GroupView
with_cache s p v = record v { stores = record v.stores { cache = s; pending = p } }

-- the sums, with one record in the place of another
abbrev pub resummed : (old new : Option TierRec) → Agents → Agents
resummed old new agent = record agent { totals = totals_after agent.totals old new }

-- The record of a name, which was read of a live store, gives place to another, or to none. A map
-- that is made is not too heavy for its sums.
pub record PutsRec (v : GroupView) (k : Name) (old new : Option TierRec) (o : Option (List ℕ))
    (s : StoreView) (result : Outcome) : Type 0 where
  pub live : v.stores.cache.live ≡ true
  pub has : HasRec (joined v) k old
  pub named : name_fault k ≡ None
  pub spelled : IsRecOf o new
  pub committed : Committed (sets (record_key k) o) v.stores.cache s result
  pub few : s.live ≡ true → AreFew s

-- no map changes and no doubt comes: the cache was only read; its disk may have failed in that
pub record LeavesCache (v : GroupView) (s : StoreView) : Type 0 where
  pub moments : s.moments ≡ v.stores.cache.moments
  pub later : Stays v.stores.cache s ⊎ Fails v.stores.cache s

abbrev pub LeavingCacheKeeps : Type 0
LeavingCacheKeeps =
    (v : GroupView) (s : StoreView) → IsWhole v → v.stores.pending ≡ None → LeavesCache v s
    → Keeps as_it_is None v (with_cache s None v)

-- ---- a request acts on a record

-- The request of a call in flight, which has no act, acts on this state; with the opening of its
-- name.
pub record ActsOn (v : GroupView) (call line : ℕ) (q : Req) (b t : NameState) (answer : Reply)
    (first : Option First) : Type 0 where
  pub acts : act b q ≡ Fresh t answer
  pub asked : HasAsked v call line q
  pub going : IsInFlight v.calls.entries call
  pub actless : HasNoAct call v.log.acts
  pub opening : IsFirstOf v.log.opening q.name b first

-- it acts on the record that was read, while no work keeps writers out
pub record ActsHere (v : GroupView) (call line : ℕ) (q : Req) (r : TierRec) (t : NameState)
    (answer : Reply) (first : Option First) : Type 0 where
  pub up : v.standing.phase ≡ Phase.Up
  pub lets : lets_write (fin.get v.traffic.flights q.name) ≡ true
  pub on : ActsOn v call line q r.state t answer first

-- Made: the record is dirty, of this moment, and the act enters the history. In doubt: the act is
-- kept with it. Else nothing.
abbrev pub acted_locally : Option First → Act → TierRec → NameState → (moment : ℕ) → StoreView
    → Outcome → GroupView → GroupView
acted_locally first a r t moment s (Ok made) v = record (with_cache s None v) {
  log = acted_log first a v.log;
  agent = resummed (Some r) (Some (acted_record t moment)) v.agent;
}
acted_locally first a r t moment s (Err Disk) v =
    with_cache s (Some (Pending.Act Cache first a t.seq)) v
acted_locally first a r t moment s (Err (BadImage at)) v = with_cache s None v
acted_locally first a r t moment s (Err (NoSpace used need limit)) v = with_cache s None v
acted_locally first a r t moment s (Err (Worn limit)) v = with_cache s None v
acted_locally first a r t moment s (Err NoMemory) v = with_cache s None v

abbrev pub ActingHereKeeps : Type 0
ActingHereKeeps =
    (v : GroupView) (call line : ℕ) (q : Req) (r : TierRec) (t : NameState) (answer : Reply)
    (first : Option First) (moment : ℕ) (o : Option (List ℕ)) (s : StoreView) (result : Outcome)
    → IsWhole v → v.stores.pending ≡ None → ActsHere v call line q r t answer first
    → PutsRec v q.name (Some r) (Some (acted_record t moment)) o s result
    → Keeps (with_req q) None v
    (acted_locally first (record { call = call; line = line; req = q; reply = answer }) r t moment s
    result v)

-- A name that is free to writers by the busy table lets them in, where its work is none for which
-- the cache has no record.
abbrev pub FreeLetsWrite : Type 0
FreeLetsWrite =
    (work : Option Flight) → busy_at work want.Write ≡ None → is_bare work ≡ false
    → lets_write work ≡ true

-- and where both stores tell and nothing is in doubt it is ruled out by the record
abbrev pub RecordsAreNotBare : Type 0
RecordsAreNotBare =
    (v : GroupView) (k : Name) (r : TierRec) → IsWhole v → BothTell (joined v)
    → v.stores.pending ≡ None → HasRec (joined v) k (Some r)
    → is_bare (fin.get v.traffic.flights k) ≡ false

-- ---- a record comes or goes, and the plain store stays

-- Made or in doubt: the work of this number on the name is gone, if there is any. Made: the sums
-- follow. Else nothing.
abbrev pub freed : Name → Option ℕ → GroupView → GroupView
freed k None v = v
freed k (Some op) v = record v {
  calls = record v.calls { flown = gone_in (length v.log.answers) op v.calls.flown };
  traffic = record v.traffic { flights = fin.remove v.traffic.flights k };
}

abbrev pub put_locally : Name → Option ℕ → (old new : Option TierRec) → StoreView → Outcome
    → GroupView → GroupView
put_locally k work old new s (Ok made) v =
    record (freed k work (with_cache s None v)) { agent = resummed old new v.agent }
put_locally k work old new s (Err Disk) v =
    freed k work (with_cache s (Some (Pending.Plain Cache k)) v)
put_locally k work old new s (Err (BadImage at)) v = with_cache s None v
put_locally k work old new s (Err (NoSpace used need limit)) v = with_cache s None v
put_locally k work old new s (Err (Worn limit)) v = with_cache s None v
put_locally k work old new s (Err NoMemory) v = with_cache s None v

-- a clean record, on which nothing is under way, is evicted
pub record EvictsHere (v : GroupView) (k : Name) (r : TierRec) : Type 0 where
  pub up : v.standing.phase ≡ Phase.Up
  pub free : fin.get v.traffic.flights k ≡ None
  pub clean : r.dirty ≡ false

abbrev pub EvictingHereKeeps : Type 0
EvictingHereKeeps =
    (v : GroupView) (k : Name) (r : TierRec) (s : StoreView) (result : Outcome) → IsWhole v
    → v.stores.pending ≡ None → EvictsHere v k r → PutsRec v k (Some r) None None s result
    → Keeps as_it_is None v (put_locally k None (Some r) None s result v)

-- the base has the state with which a flush set out, and no request acted on the record since
pub record FlushesHere (v : GroupView) (k : Name) (call : Option ℕ) (op m : ℕ)
    (blocking drain : Bool) (r : TierRec) : Type 0 where
  pub flight : fin.get v.traffic.flights k
      ≡ Some (Flight.Flush call op r.state.seq blocking drain)
  pub reply : IsIn (BaseReply.Installed v.standing.cache_epoch op m)
      (joined v).memory.net.replies

-- its record is clean; or, where the cache is drained, gone
abbrev pub CleaningHereKeeps : Type 0
CleaningHereKeeps =
    (v : GroupView) (k : Name) (call : Option ℕ) (op m : ℕ) (blocking drain : Bool) (r : TierRec)
    (o : Option (List ℕ)) (s : StoreView) (result : Outcome) → IsWhole v
    → v.stores.pending ≡ None → FlushesHere v k call op m blocking drain r
    → (PutsRec v k (Some r) (Some (clean_record r)) o s result
    → Keeps as_it_is None v
    (put_locally k (Some op) (Some r) (Some (clean_record r)) s result v))
    × (PutsRec v k (Some r) None None s result
    → Keeps as_it_is None v (put_locally k (Some op) (Some r) None s result v))

-- A promotion that has all chunks ends with a clean record of this moment. Where both stores tell
-- there was no record; over others one may be read, and then gives place.
pub record PromotesHere (v : GroupView) (k : Name) (call op : ℕ) (gather : List Chunk) (ask : Ask)
    (b : NameState) : Type 0 where
  pub flight : fin.get v.traffic.flights k ≡ Some (Flight.Promote call op gather ask)
  pub whole : gathered gather ≡ Some b

abbrev pub PromotingHereKeeps : Type 0
PromotingHereKeeps =
    (v : GroupView) (k : Name) (call op : ℕ) (gather : List Chunk) (ask : Ask) (b : NameState)
    (old : Option TierRec) (moment : ℕ) (o : Option (List ℕ)) (s : StoreView) (result : Outcome)
    → IsWhole v → v.stores.pending ≡ None → PromotesHere v k call op gather ask b
    → PutsRec v k old (Some (record { state = b; dirty = false; mtime = moment })) o s result
    → Keeps as_it_is None v
    (put_locally k (Some op) old (Some (record { state = b; dirty = false; mtime = moment })) s
    result v)

-- it ends with the act of its request, in one commit
abbrev pub acted_promoting : (op : ℕ) → Option First → Act → Option TierRec → NameState
    → (moment : ℕ) → StoreView → Outcome → GroupView → GroupView
acted_promoting op first a old t moment s (Ok made) v =
    record (freed a.req.name (Some op) (with_cache s None v)) {
      log = acted_log first a v.log;
      agent = resummed old (Some (acted_record t moment)) v.agent;
    }
acted_promoting op first a old t moment s (Err Disk) v =
    freed a.req.name (Some op) (with_cache s (Some (Pending.Act Cache first a t.seq)) v)
acted_promoting op first a old t moment s (Err (BadImage at)) v = with_cache s None v
acted_promoting op first a old t moment s (Err (NoSpace used need limit)) v = with_cache s None v
acted_promoting op first a old t moment s (Err (Worn limit)) v = with_cache s None v
acted_promoting op first a old t moment s (Err NoMemory) v = with_cache s None v

abbrev pub PromotingActsHereKeeps : Type 0
PromotingActsHereKeeps =
    (v : GroupView) (call line : ℕ) (q : Req) (waiter op : ℕ) (gather : List Chunk) (ask : Ask)
    (b t : NameState) (answer : Reply) (first : Option First) (old : Option TierRec) (moment : ℕ)
    (o : Option (List ℕ)) (s : StoreView) (result : Outcome) → IsWhole v
    → v.stores.pending ≡ None → PromotesHere v q.name waiter op gather ask b
    → ActsOn v call line q b t answer first
    → PutsRec v q.name old (Some (acted_record t moment)) o s result
    → Keeps (with_req q) None v
    (acted_promoting op first (record { call = call; line = line; req = q; reply = answer }) old t
    moment s result v)

-- ---- what an answer behind them rests on

-- the act that came last has the number of all acts
abbrev pub LastActIsPlaced : Type 0
LastActIsPlaced =
    (first : Option First) (a : Act) (v : GroupView)
    → act_at (acted_log first a v.log).acts (length (acted_log first a v.log).acts) ≡ Some a

-- Where no commit is in doubt a record has the state that its name has at the present place: so it
-- tells a reading, and answers a request again, as stale or as worn out, as the plain store does.
abbrev pub RecordsAnswerPlainly : Type 0
RecordsAnswerPlainly =
    (start : Store) (v : GroupView) (k : Name) (r : TierRec) → BothTell (joined v)
    → Began start v → v.stores.pending ≡ None → HasRec (joined v) k (Some r)
    → state_at start v.log.acts (length v.log.acts) k ≡ r.state

-- so what an answer tells of the record's state, at the present place, is the truth
pub record TellsHere (start : Store) (v : GroupView) (k : Name) (r : TierRec)
    (place : ℕ) : Type 0 where
  pub writes : (q : Req) (l : Logged)
      → TellsWrite r.state v.log.acts q l l.answer
      → TellsWrite (state_at start v.log.acts place k) v.log.acts q l l.answer
  pub reads : (vector : List SubOp) (x : Answer) → TellsRead r.state vector x
      → TellsRead (state_at start v.log.acts place k) vector x

abbrev pub RecordsTellTruth : Type 0
RecordsTellTruth =
    (start : Store) (v : GroupView) (k : Name) (r : TierRec) (place : ℕ) → BothTell (joined v)
    → Began start v → v.stores.pending ≡ None → HasRec (joined v) k (Some r)
    → place ≡ length v.log.acts → TellsHere start v k r place
