-- Quiet steps: what is left of a step once its store, its act and its new call or work are there;
-- and how calls are answered and end.
use Rattle.std.specs.Prelude.{◌≡◌, ◌≢◌, ◌⊎◌, ◌==◌, if◌then◌else◌, ℕ, true, List, [], ◌∷◌, ◌++◌, length, Option, Some, None}
use Rattle.std.specs.FinMap as fin
use Rattle.obj_ops.specs.Stores.{Store}
use Rattle.tier_chron.specs.Calls.{call_of}
use Rattle.tier_chron.specs.Fits.{TellsCall}
use Rattle.tier_chron.specs.Laws.{MayLog}
use Rattle.tier_chron.specs.Logs.{Log, answered_log}
use Rattle.tier_chron.specs.Shapes.{is_fault}
use Rattle.tier_chron.specs.declared.entries.Logged.{Logged}
use Rattle.tier_flight.specs.Changes.{IsDroppedIn}
use Rattle.tier_flight.specs.Ends.{is_call}
use Rattle.tier_flight.specs.Numbers.{HasOneRead, IsNameBy, has_call}
use Rattle.tier_join.specs.Group.{AreLeft, BothTell, Memory, ShowsIn, TwoMaps, map_in, tier_of, with_act, with_epoch}
use Rattle.tier_join.specs.Promises.{Promises}
use Rattle.tier_join.specs.Steps.{with_doubt}
use Rattle.tier_owners.specs.Calls.{MayClose}
use Rattle.tier_protocol.specs.Owners.{Ledger, with_call_act}
use Rattle.tier_protocol.specs.Tiers.{Flight, Flights, Name, ReadFlight}
use Rattle.tier_types.specs.Flights.{HasOpid}
use Rattle.tier_view.specs.Calls.{Calls, Flown}
use Rattle.tier_view.specs.Changes.{ended_in, gone_in, unawaited, unnoted}
use Rattle.tier_view.specs.Grows.{Extends, Grows, Remains, Stays, Wanted}
use Rattle.tier_view.specs.Laws.{Keeps}
use Rattle.tier_view.specs.Stores.{Pending}
use Rattle.tier_view.specs.Views.{GroupView, act_in, calls_in, joined, ledger_in, memory_of}
use Rattle.tier_view.specs.Whole.{AreCounted, HasCause, IsWhole}
use Rattle.tier_view.specs.Worlds.{Began, IsOwned}

-- ---- quiet steps

-- no more come
abbrev pub NoMore : {X : Type 0} → List X → Type 0
NoMore xs = xs ≡ []

-- one answer, or none
abbrev pub told : Option Logged → List Logged
told None = []
told (Some l) = l ∷ []

-- an answer is logged behind all these acts
abbrev pub IsLoggedAt : ℕ → Option Logged → Type 0
IsLoggedAt acts None = Unit {0}
IsLoggedAt acts (Some l) = l.end ≡ acts

-- What a quiet step may do: no store is touched, no doubt comes or goes, no act, no call and no
-- work comes; one answer may be logged; calls may end, or take over a write, work may go, and what
-- is between the pools, how far the group is started, and the agent may change.
pub record Quiet (old new : GroupView) : Type 0 where
  pub pools : Promises (with_doubt (joined old).doubt) (joined old) (joined new)
  pub began : (start : Store) → BothTell (joined old) → Began start old → Began start new
  pub stores : new.stores ≡ old.stores
  pub opening : new.log.opening ≡ old.log.opening
  pub acts : new.log.acts ≡ old.log.acts
  pub answer : Option Logged
  pub is_answer : new.log.answers ≡ old.log.answers ++ told answer
  pub ends : IsLoggedAt (length new.log.acts) answer
  pub last : new.calls.last ≡ old.calls.last
  pub entries : Extends Stays NoMore old.calls.entries new.calls.entries
  pub flown : Extends (Remains (length old.log.answers) (length new.log.answers)) NoMore
      old.calls.flown new.calls.flown
  pub epoch : new.standing.cache_epoch ≡ old.standing.cache_epoch
  pub opids : new.standing.next_opid ≡ old.standing.next_opid
  pub share : new.agent.share ≡ old.agent.share
  pub values : new.agent.values ≡ old.agent.values

-- a quiet step keeps what always holds
abbrev pub KeepsQuietly : (old new : GroupView) → Type 0
KeepsQuietly old new = IsWhole new × Quiet old new

-- no answer came
abbrev pub NoAnswer : (old new : GroupView) → Type 0
NoAnswer old new = new.log.answers ≡ old.log.answers

-- no work came to the table
abbrev pub NoWork : (old new : GroupView) → Type 0
NoWork old new = length new.calls.flown ≡ length old.calls.flown

-- nothing happened to work in the table
abbrev pub SameWork : (old new : GroupView) → Type 0
SameWork old new = new.calls.flown ≡ old.calls.flown

-- ---- laws of quiet steps

-- a quiet step is a step
abbrev pub QuietIsStep : Type 0
QuietIsStep =
    (v w : GroupView) → KeepsQuietly v w → Keeps (with_doubt (joined v).doubt) None v w

-- stores, history and calls are as they were, and no number of an operation is given out
pub record LeavesAll (old new : GroupView) : Type 0 where
  pub stores : new.stores ≡ old.stores
  pub log : new.log ≡ old.log
  pub calls : new.calls ≡ old.calls
  pub epoch : new.standing.cache_epoch ≡ old.standing.cache_epoch
  pub opids : new.standing.next_opid ≡ old.standing.next_opid

-- a step that may come at any moment and leaves all these is quiet, as where a reply is forgotten
abbrev pub LeavingIsQuiet : Type 0
LeavingIsQuiet =
    (v w : GroupView) → Keeps (with_doubt (joined v).doubt) None v w → LeavesAll v w
    → KeepsQuietly v w

-- A step, and a quiet one behind it, are one step, where at most one of them logs an answer, and
-- work that comes in the first does not go in the second.
abbrev pub StepsJoinQuiet : Type 0
StepsJoinQuiet =
    (other : Store → Store) (wanted : Option Wanted) (u v w : GroupView) → Grows other wanted u v
    → Quiet v w → NoAnswer u v ⊎ NoAnswer v w → NoWork u v ⊎ SameWork v w → Grows other wanted u w

-- two quiet steps are one quiet step
abbrev pub QuietsJoin : Type 0
QuietsJoin =
    (u v w : GroupView) → Quiet u v → Quiet v w → NoAnswer u v ⊎ NoAnswer v w → Quiet u w

-- a quiet step that logs no answer, and a step behind it, are one step
abbrev pub QuietLeadsStep : Type 0
QuietLeadsStep =
    (other : Store → Store) (wanted : Option Wanted) (u v w : GroupView) → Quiet u v
    → Grows other wanted v w → NoAnswer u v → Grows other wanted u w

-- ---- a call ends

-- the history with this answer, or as it is
abbrev pub told_log : Option Logged → Log → Log
told_log None log = log
told_log (Some l) log = answered_log l log

-- the work of this number goes, if it is one
abbrev pub gone_some : (now : ℕ) → Option ℕ → List Flown → List Flown
gone_some now None flown = flown
gone_some now (Some op) flown = gone_in now op flown

-- the table where a call is over, and this work of it has gone
abbrev pub ended_calls : (now call : ℕ) → (dropped : Option ℕ) → Calls → Calls
ended_calls now call dropped calls = record calls {
  entries = ended_in call calls.entries;
  flown = gone_some now dropped calls.flown;
}

-- A call ends: its answer is logged, if there is one; its entry is ended; this is left of the work
-- under way, and the work of this number has gone; what it awaits and has noted is forgotten.
abbrev pub ended_call : (call : ℕ) → Option Logged → Flights → (dropped : Option ℕ) → GroupView
    → GroupView
ended_call call answer flights dropped v = record v {
  log = told_log answer v.log;
  calls = ended_calls (length v.log.answers) call dropped v.calls;
  traffic = record v.traffic {
    flights = flights;
    awaited = unawaited call v.traffic.awaited;
    noted = unnoted call v.traffic.noted;
  };
}

-- Of all work is left what the end of the call leaves, and the work of this number alone is not
-- there any more.
pub record DropsWork (call : ℕ) (old new : Flights) (dropped : Option ℕ) : Type 0 where
  pub left : IsDroppedIn call old new
  pub stays : (n : Name) (op : ℕ) → HasOpid (fin.get old n) op → dropped ≢ Some op
      → HasOpid (fin.get new n) op
  pub goes : (n : Name) (op : ℕ) → HasOpid (fin.get new n) op → dropped ≢ Some op

-- the number of the oldest read of this call
abbrev pub read_of : ℕ → List ReadFlight → Option ℕ
read_of call [] = None
read_of call (r ∷ rs) = if r.call == call then Some r.opid else read_of call rs

-- the number of the work on a name that goes when the call ends
abbrev pub dropped_op : ℕ → Option Flight → Option ℕ
dropped_op call None = None
dropped_op call (Some (Flight.Promote c op gather ask)) = if c == call then Some op else None
dropped_op call (Some (Flight.Write driver owner op r)) = None
dropped_op call (Some (Flight.Reads list)) = read_of call list
dropped_op call (Some (Flight.Flush c op seq blocking drain)) =
    if is_call call c then Some op else None

-- of the work on the name that was found, if one was
abbrev pub dropped_on : ℕ → Flights → Option Name → Option ℕ
dropped_on call flights None = None
dropped_on call flights (Some n) = dropped_op call (fin.get flights n)

-- The name that is found for a call is the one whose work it waits for, so the work that goes is
-- there.
abbrev pub OneWorkIsDropped : Type 0
OneWorkIsDropped =
    (v : GroupView) (call : ℕ) (found : Option Name) (flights : Flights) → IsWhole v
    → IsNameBy has_call v.traffic.flights call found
    → ((n : Name) → HasOneRead call (fin.get v.traffic.flights n))
    → IsDroppedIn call v.traffic.flights flights
    → DropsWork call v.traffic.flights flights (dropped_on call v.traffic.flights found)

-- ---- answers for good

-- the act in doubt is not this call's
abbrev pub IsNotPending : ℕ → Option Pending → Type 0
IsNotPending call None = Unit {0}
IsNotPending call (Some (Pending.Plain pool name)) = Unit {0}
IsNotPending call (Some (Pending.Act pool first a seq)) = a.call ≢ call
IsNotPending call (Some (Pending.Epoch pool e)) = Unit {0}

-- the maps spell a sound pair with this memory, in which each Write has its owner, and the call may
-- be answered for good
pub record MayCloseAt (start : Store) (m : Memory) (l : Ledger) (z : TwoMaps) (call : ℕ) : Type 0
  where
    pub owned : IsOwned start m l z
    pub may : MayClose (tier_of start m owned.spells.recs owned.spells.base) l call

-- the same where the maps have the commit in doubt
abbrev pub MayCloseWith : Store → Memory → Ledger → Pending → TwoMaps → ℕ → Type 0
MayCloseWith start m l (Pending.Plain pool name) z call = ⊥
MayCloseWith start m l (Pending.Act pool first a seq) z call =
    ShowsIn pool a.req.name seq (map_in pool z)
    × MayCloseAt start (with_act a.req m) (with_call_act (act_in a) l) z call
MayCloseWith start m l (Pending.Epoch pool e) z call =
    MayCloseAt start (with_epoch pool e m) l z call

abbrev pub MayCloseBy : Store → Memory → Ledger → Option Pending → TwoMaps → ℕ → Type 0
MayCloseBy start m l None z call = MayCloseAt start m l z call
MayCloseBy start m l (Some p) z call =
    MayCloseAt start m l z call ⊎ MayCloseWith start m l p z call

-- The call may be answered for good: no act of it can come any more, at whatever a stop now leaves.
pub record MayCloseNow (v : GroupView) (call : ℕ) : Type 0 where
  pub free : IsNotPending call v.stores.pending
  pub closes : (start : Store) → BothTell (joined v) → Began start v → (z : TwoMaps)
      → AreLeft (joined v) z
      → MayCloseBy start (memory_of v.log v.traffic v.standing) (ledger_in v) v.stores.pending z
      call

-- An answer of this call that may be logged, where its table of calls is this then: it is one that
-- the call may have; what it says of the group is so; and each pool's disk failed as often as
-- answers tell with it.
pub record MayEndWith (v : GroupView) (calls : Calls) (call : ℕ) (l : Logged) : Type 0 where
  pub own : l.call ≡ call
  pub may : MayLog (calls_in v.calls.entries) v.log l
  pub cause : HasCause (length v.log.answers) calls v.agent.share v.standing.cache_epoch l l.answer
  pub counted : AreCounted v.stores (v.log.answers ++ l ∷ [])

-- it tells what the plain store tells, and is a fault, or the call's for good
pub record IsTruth (v : GroupView) (l : Logged) : Type 0 where
  pub tells : (start : Store) → BothTell (joined v) → Began start v
      → TellsCall start v.log.acts l (call_of (calls_in v.calls.entries) l.call)
  pub good : (is_fault l.answer ≡ true) ⊎ MayCloseNow v l.call

-- what a call ends with: an answer that may be logged, or none
abbrev pub MayEnd : GroupView → Calls → ℕ → Option Logged → Type 0
MayEnd v calls call None = Unit {0}
MayEnd v calls call (Some l) = MayEndWith v calls call l × IsTruth v l

-- a call ends, in a doubt too
abbrev pub EndingCallsKeeps : Type 0
EndingCallsKeeps =
    (v : GroupView) (call : ℕ) (answer : Option Logged) (flights : Flights) (dropped : Option ℕ)
    → IsWhole v → DropsWork call v.traffic.flights flights dropped
    → MayEnd v (ended_calls (length v.log.answers) call dropped v.calls) call answer
    → KeepsQuietly v (ended_call call answer flights dropped v)
