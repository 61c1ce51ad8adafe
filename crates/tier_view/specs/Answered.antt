-- How calls are answered: by faults, by what holds them up, and by replies of the base.
use Rattle.std.specs.Prelude.{map, ◌+◌, ◌≡◌, ◌≢◌, ◌≤◌, ◌<◌, ◌⊎◌, ℕ, Bool, true, false, List, ◌∷◌, length, Option, Some, None}
use Rattle.std.specs.FinMap as fin
use Rattle.std.specs.List.{AllByRecursion}
use Rattle.obj_model.specs.declared.change.Pool.TheVariants.{Cache, Base}
use Rattle.obj_model.specs.declared.reply.Reply.{Reply}
use Rattle.obj_model.specs.declared.reply.Reply.TheVariants as reply
use Rattle.obj_model.specs.declared.req.Req.{Req}
use Rattle.obj_model.specs.declared.tier.Kind.{Kind}
use Rattle.obj_ops.specs.Stores.{Store}
use Rattle.obj_ops.specs.declared.reading.Looked.{Looked}
use Rattle.obj_ops.specs.declared.reading.Looked.TheVariants as looked
use Rattle.obj_ops.specs.declared.request.Acted.TheVariants.{Again}
use Rattle.tier_chron.specs.Calls.{call_of}
use Rattle.tier_chron.specs.Laws.{MayLog}
use Rattle.tier_chron.specs.Places.{act_at}
use Rattle.tier_chron.specs.Shapes.{NumbersAgree, Stands, is_fault, may_answer, may_go}
use Rattle.tier_chron.specs.declared.answer.Answer.{Answer}
use Rattle.tier_chron.specs.declared.answer.Answer.TheVariants as answer
use Rattle.tier_chron.specs.declared.asked.Asked.TheVariants.{Read}
use Rattle.tier_chron.specs.declared.entries.Act.{Act}
use Rattle.tier_chron.specs.declared.entries.Logged.{Logged}
use Rattle.tier_flight.specs.Busy.{busy_at}
use Rattle.tier_flight.specs.declared.busy.Want.{Want}
use Rattle.tier_join.specs.Group.{BothTell}
use Rattle.tier_join.specs.Steps.{HasRec}
use Rattle.tier_protocol.specs.Owners.{number_of}
use Rattle.tier_protocol.specs.Tiers.{BaseActed, BaseReply, Flight, Flights, Name, Phase, ReadFlight, TierRec, IsIn}
use Rattle.tier_types.specs.Flights.{is_write}
use Rattle.tier_types.specs.Serving.{lasting}
use Rattle.tier_view.specs.Answers.{DropsWork, IsNotPending, KeepsQuietly, MayCloseNow, MayEndWith, NoAnswer, ended_call, ended_calls}
use Rattle.tier_view.specs.Calls.{Entry, Flown, entry_of}
use Rattle.tier_view.specs.Changes.{gone_in}
use Rattle.tier_view.specs.Laws.{HasAsked}
use Rattle.tier_view.specs.Tables.{IsStanding}
use Rattle.tier_view.specs.Traffic.{Owner, replies_of}
use Rattle.tier_view.specs.Views.{GroupView, act_in, asking_of, calls_in, joined}
use Rattle.tier_view.specs.Whole.{AsksFor, IsFirstEpoch, IsWhole, faults_told}
use Rattle.tier_view.specs.Worlds.{Began}

-- ---- what may be logged

-- An answer of the call of this entry, which is in flight: it has the entry's number, line and
-- begin, a place from there up to the present number of acts, and is one that the call may have.
pub record IsAnswerOf (v : GroupView) (e : Entry) (l : Logged) : Type 0 where
  pub entry : entry_of v.calls.entries l.call ≡ Some e
  pub going : e.ended ≡ false
  pub line : e.line ≡ Some l.line
  pub begin : e.begin ≡ l.begin
  pub seen : l.begin ≤ l.place
  pub done : l.place ≤ l.end
  pub now : l.end ≡ length v.log.acts
  pub kind : may_answer e.asked l.answer ≡ true
  pub numbers : NumbersAgree l.answer
  pub way : may_go e.asked l.answer l.path ≡ true
  pub beside : Stands v.log.acts e.asked l

-- it may be logged
abbrev pub EntriesMayLog : Type 0
EntriesMayLog =
    (v : GroupView) (e : Entry) (l : Logged) → IsWhole v → IsAnswerOf v e l
    → MayLog (calls_in v.calls.entries) v.log l

-- ---- faults

-- what a fault says of the group was so: the epochs of a restart, and a disk that failed more often
-- than answers tell
abbrev pub HasFaultCause : GroupView → Logged → Answer → Type 0
HasFaultCause v l (answer.Restarted was now) =
    (was < now) × (now ≤ v.standing.cache_epoch)
    × IsFirstEpoch v.calls.entries (entry_of v.calls.entries l.call) was
HasFaultCause v l (answer.DiskFault Cache) =
    faults_told Cache v.log.answers < v.stores.cache.faults
HasFaultCause v l (answer.DiskFault Base) = faults_told Base v.log.answers < v.stores.base.faults
HasFaultCause v l other = Unit {0}

-- a call ends with a fault, in a doubt too
abbrev pub FaultyCallsKeep : Type 0
FaultyCallsKeep =
    (v : GroupView) (l : Logged) (flights : Flights) (dropped : Option ℕ) → IsWhole v
    → DropsWork l.call v.traffic.flights flights dropped → MayLog (calls_in v.calls.entries) v.log l
    → is_fault l.answer ≡ true → HasFaultCause v l l.answer
    → KeepsQuietly v (ended_call l.call (Some l) flights dropped v)

-- a disk that failed in a step which logged nothing failed more often than answers tell
abbrev pub FaultsHaveRoom : Type 0
FaultsHaveRoom =
    (u v : GroupView) → IsWhole u → NoAnswer u v
    → (u.stores.cache.faults < v.stores.cache.faults
    → faults_told Cache v.log.answers < v.stores.cache.faults)
    × (u.stores.base.faults < v.stores.base.faults
    → faults_told Base v.log.answers < v.stores.base.faults)

-- ---- what holds a call up

-- A call ends that work on the name it asked for holds up, by the busy table of what is left of
-- work then; the work is of another call.
abbrev pub BlockedCallsKeep : Type 0
BlockedCallsKeep =
    (v : GroupView) (l : Logged) (flights : Flights) (dropped : Option ℕ) (name : Name)
    (want : Want) (k : Kind) (op : ℕ) → IsWhole v
    → DropsWork l.call v.traffic.flights flights dropped → MayLog (calls_in v.calls.entries) v.log l
    → l.answer ≡ answer.Blocked k op
    → busy_at (fin.get flights name) want ≡ Some (record { kind = k; opid = op })
    → AsksFor name (entry_of v.calls.entries l.call)
    → ((f : Flown) → IsIn f v.calls.flown → IsStanding k name op f → f.call ≢ l.call)
    → MayCloseNow v l.call
    → KeepsQuietly v (ended_call l.call (Some l) flights dropped v)

-- work in the table is of calls that were entered: a call that is entered next has none
abbrev pub NewCallsHaveNoWork : Type 0
NewCallsHaveNoWork =
    (v : GroupView) → IsWhole v → AllByRecursion (λ f. f.call ≢ v.calls.last + 1) v.calls.flown

-- ---- who may be answered for good

-- a call that asked no write request
abbrev pub ReadersMayCloseNow : Type 0
ReadersMayCloseNow =
    (v : GroupView) (call : ℕ) → IsWhole v
    → asking_of (call_of (calls_in v.calls.entries) call) ≡ None → MayCloseNow v call

-- a message is not this call's
abbrev pub IsNotOf : ℕ → Option Owner → Type 0
IsNotOf call None = Unit {0}
IsNotOf call (Some o) = o.call ≢ call

-- a call that asked a write request, of which nothing was sent, and that is not under way
abbrev pub UnsentMayCloseNow : Type 0
UnsentMayCloseNow =
    (v : GroupView) (call line : ℕ) (r : Req) → HasAsked v call line r
    → is_write (fin.get v.traffic.flights r.name) ≡ false
    → AllByRecursion (λ s. IsNotOf call s.owner) v.traffic.messages
    → IsNotPending call v.stores.pending → MayCloseNow v call

-- a call whose request's name has a record, while the cache is up
abbrev pub RecordsMayCloseNow : Type 0
RecordsMayCloseNow =
    (v : GroupView) (call line : ℕ) (r : Req) (rec : TierRec) → v.stores.pending ≡ None
    → v.standing.phase ≡ Phase.Up → HasAsked v call line r → HasRec (joined v) r.name (Some rec)
    → MayCloseNow v call

-- ---- replies of the base

-- a proxied write landed: the work on its name is gone
abbrev pub landed_write : (k : Name) (op : ℕ) → GroupView → GroupView
landed_write k op v = record v {
  calls = record v.calls { flown = gone_in (length v.log.answers) op v.calls.flown };
  traffic = record v.traffic { flights = fin.remove v.traffic.flights k };
}

-- the base told what became of a write request that this call drives, of its own or another's
pub record Lands (v : GroupView) (k : Name) (driver : Option ℕ) (owner op : ℕ) (r : Req)
    (a : BaseActed) : Type 0 where
  pub settled : v.stores.pending ≡ None
  pub flight : fin.get v.traffic.flights k ≡ Some (Flight.Write driver owner op r)
  pub reply : IsIn (BaseReply.Wrote v.standing.cache_epoch op a) (replies_of v.traffic.replies)

-- whoever drives it goes on
abbrev pub LandingWritesKeeps : Type 0
LandingWritesKeeps =
    (v : GroupView) (k : Name) (driver : Option ℕ) (owner op : ℕ) (r : Req) (a : BaseActed)
    → IsWhole v → Lands v k driver owner op r a → KeepsQuietly v (landed_write k op v)

-- a reply that is kept
abbrev pub kept_answer : Reply → Answer
kept_answer (reply.Done ver) = answer.Done ver true
kept_answer (reply.Refused at why ver) = answer.Refused at why ver true

-- what the base told, as the plain store answers it from then on
abbrev pub lasting_answer : BaseActed → Answer
lasting_answer (BaseActed.Fresh given) = kept_answer given
lasting_answer (BaseActed.Again given) = kept_answer given
lasting_answer (BaseActed.Stale kept) = answer.Stale kept
lasting_answer (BaseActed.Worn limit) = answer.Worn limit

-- the answer is by the call's own act, whose number is its place
abbrev pub is_own : Answer → Bool
is_own (answer.Done ver false) = true
is_own (answer.Refused at why ver false) = true
is_own other = false

-- the answer that is an act's reply
abbrev pub own_answer : Reply → Answer
own_answer (reply.Done ver) = answer.Done ver false
own_answer (reply.Refused at why ver) = answer.Refused at why ver false

-- The own act of a call, found in the history under its number: it is of the request that the call
-- asked and came behind the call's begin, so its reply may be the answer, with the number as place.
abbrev pub OwnActsStand : Type 0
OwnActsStand =
    (v : GroupView) (e : Entry) (l : Logged) (a : Act) → IsWhole v
    → entry_of v.calls.entries l.call ≡ Some e → act_at v.log.acts l.place ≡ Some a
    → a.call ≡ l.call → e.line ≡ Some l.line → l.answer ≡ own_answer a.reply
    → (e.begin ≤ l.place) × Stands v.log.acts e.asked l

-- the number of a call's act finds it
abbrev pub NumbersFindActs : Type 0
NumbersFindActs =
    (acts : List Act) (call number : ℕ) → number_of call (map act_in acts) ≡ Some number
    → (a : Act) × (act_at acts number ≡ Some a) × (a.call ≡ call)

-- Where a write request landed and both stores tell: its owner's act, if there is one, is of this
-- request and has the reply that the base told; and there is one where the base told that the
-- request acted just now.
abbrev pub LandedActsFit : Type 0
LandedActsFit =
    (start : Store) (v : GroupView) (k : Name) (driver : Option ℕ) (owner op : ℕ) (r : Req)
    (a : BaseActed) → BothTell (joined v) → Began start v → Lands v k driver owner op r a
    → ((x : Act) → IsIn x v.log.acts → x.call ≡ owner → (x.req ≡ r) × (lasting a ≡ Again x.reply))
    × ((given : Reply) → a ≡ BaseActed.Fresh given
    → (x : Act) × IsIn x v.log.acts × (x.call ≡ owner) × (x.reply ≡ given))

-- The answer of a write request that landed: by its own act, a fault, or what the base told, at the
-- present number of acts.
abbrev pub IsOfLanded : (acts : ℕ) → BaseActed → Logged → Type 0
IsOfLanded acts a l =
    (is_own l.answer ≡ true) ⊎ (is_fault l.answer ≡ true)
    ⊎ ((l.place ≡ acts) × (l.answer ≡ lasting_answer a))

-- the owner is answered, and ends
abbrev pub LandedCallsKeep : Type 0
LandedCallsKeep =
    (v : GroupView) (k : Name) (driver : Option ℕ) (op : ℕ) (r : Req) (a : BaseActed) (l : Logged)
    (flights : Flights) (dropped : Option ℕ) → IsWhole v → Lands v k driver l.call op r a
    → DropsWork l.call (fin.remove v.traffic.flights k) flights dropped
    → MayLog (calls_in v.calls.entries) v.log l → HasFaultCause v l l.answer
    → IsOfLanded (length v.log.acts) a l
    → KeepsQuietly v (ended_call l.call (Some l) flights dropped (landed_write k op v))

-- what a reading is told, which is never kept
abbrev pub looked_answer : Looked → Answer
looked_answer (looked.Values ver outs) = answer.Values ver outs
looked_answer (looked.Refused at why ver) = answer.Refused at why ver false

-- the base told this of a proxied read of the call, which asked for it
pub record IsLookedAt (v : GroupView) (k : Name) (list : List ReadFlight) (r : ReadFlight)
    (found : Looked) (client call : ℕ) : Type 0 where
  pub settled : v.stores.pending ≡ None
  pub flight : fin.get v.traffic.flights k ≡ Some (Flight.Reads list)
  pub on : IsIn r list
  pub reply : IsIn (BaseReply.Looked v.standing.cache_epoch r.opid found)
      (replies_of v.traffic.replies)
  pub entry : Entry
  pub is : entry_of v.calls.entries call ≡ Some entry
  pub asked : entry.asked ≡ Read client k r.vector

-- the reader is answered at the present number of acts, and ends; its read is gone
abbrev pub LookedCallsKeep : Type 0
LookedCallsKeep =
    (v : GroupView) (k : Name) (list : List ReadFlight) (r : ReadFlight) (found : Looked)
    (client : ℕ) (l : Logged) (flights : Flights) (dropped : Option ℕ) → IsWhole v
    → IsLookedAt v k list r found client l.call
    → DropsWork l.call v.traffic.flights flights dropped
    → MayLog (calls_in v.calls.entries) v.log l → l.place ≡ length v.log.acts
    → l.answer ≡ looked_answer found
    → KeepsQuietly v (ended_call l.call (Some l) flights dropped v)
