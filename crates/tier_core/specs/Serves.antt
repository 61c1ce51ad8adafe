-- A client's call that is served from the cache's record of its name.
use Rattle.std.specs.Prelude.{◌≡◌, ℕ, true, List, length, Option, Some, None, Result, Ok, Err, OnOk}
use Rattle.std.specs.FinMap as fin
use Rattle.cache_pool.specs.Puts.{Commits, record_put}
use Rattle.cache_pool.specs.declared.fault.CacheFault.{CacheFault}
use Rattle.obj_model.specs.declared.reply.Reply.{Reply}
use Rattle.obj_model.specs.declared.req.Req.{Req}
use Rattle.obj_model.specs.declared.state.NameState.{NameState}
use Rattle.obj_model.specs.declared.tier.Path.TheVariants.{Hit}
use Rattle.obj_ops.specs.Acts.{act, look}
use Rattle.obj_ops.specs.Stores.{Store}
use Rattle.obj_ops.specs.declared.request.Acted.{Acted}
use Rattle.obj_ops.specs.declared.request.Acted.TheVariants.{Fresh, Again, Stale, Worn}
use Rattle.store_face.specs.declared.fault.StoreFault.TheVariants.{NoMemory}
use Rattle.tier_chron.specs.Laws.{MayStillAct}
use Rattle.tier_chron.specs.Logs.{Log}
use Rattle.tier_chron.specs.Shapes.{HasNoAct}
use Rattle.tier_chron.specs.declared.answer.Answer.{Answer}
use Rattle.tier_chron.specs.declared.answer.Answer.TheVariants as answer
use Rattle.tier_chron.specs.declared.asked.Asked.{Asked}
use Rattle.tier_chron.specs.declared.asked.Asked.TheVariants.{Write, Read}
use Rattle.tier_chron.specs.declared.entries.Logged.{Logged}
use Rattle.tier_core.specs.Ends.{IsEnded}
use Rattle.tier_core.specs.Reads.{ReadsHere}
use Rattle.tier_core.specs.Turns.{IsTurn}
use Rattle.tier_core.specs.Writes.{Writes}
use Rattle.tier_core.specs.declared.serving.Served.{Served}
use Rattle.tier_core.specs.declared.turns.Turn.{Turn}
use Rattle.tier_join.specs.Promises.{as_it_is, with_req}
use Rattle.tier_join.specs.Steps.{HasRec, Outcome}
use Rattle.tier_rec.specs.Records.{acted_record}
use Rattle.tier_types.specs.Flights.{lets_write, name_asked}
use Rattle.tier_types.specs.declared.flight.Ask.{Ask}
use Rattle.tier_types.specs.declared.phase.Phase.TheVariants.{Up}
use Rattle.tier_types.specs.declared.record.TierRec.{TierRec}
use Rattle.tier_view.specs.Answered.{kept_answer, looked_answer}
use Rattle.tier_view.specs.Laws.{Keeps}
use Rattle.tier_view.specs.Views.{GroupView, joined}

-- ---- what a client asks

-- as the table of calls has it
abbrev pub asked_of : Ask → Asked
asked_of (Ask.Write req) = Write req
asked_of (Ask.Read client name vector) = Read client name vector

-- what it makes of the plain store, if it acts
abbrev pub with_ask : Ask → Store → Store
with_ask (Ask.Write req) = with_req req
with_ask (Ask.Read client name vector) = as_it_is

-- ---- what may be served

-- a write request may be served from a record while the cache is up and no work on the name keeps
-- writers out, if its call may still act
pub record MayWriteHere (v : GroupView) (call : ℕ) (name : List ℕ) : Type 0 where
  pub up : v.standing.phase ≡ Up
  pub lets : lets_write (fin.get v.traffic.flights name) ≡ true
  pub free : MayStillAct call v.log

-- what has to hold where a client's call is served: a reading needs nothing of this
abbrev pub MayBeServed : GroupView → (call : ℕ) → Ask → Type 0
MayBeServed v call (Ask.Write req) = MayWriteHere v call req.name
MayBeServed v call (Ask.Read client name vector) = Unit {0}

-- The call of this turn asked for this write request and has no act, and the cache, which is up and
-- has no commit in doubt, has this record of the name.
pub record IsHit (v : GroupView) (turn : Turn) (req : Req) (held : TierRec) : Type 0 where
  pub settled : v.stores.pending ≡ None
  pub up : v.standing.phase ≡ Up
  pub is_turn : IsTurn v turn (Write req)
  pub actless : HasNoAct turn.call v.log.acts
  pub has : HasRec (joined v) req.name (Some held)

-- ---- answers without a commit

-- an answer at the present number of acts
abbrev pub answered_here : Turn → Log → Answer → Logged
answered_here turn log told = record {
  call = turn.call;
  line = turn.line;
  begin = turn.begin;
  place = length log.acts;
  end = length log.acts;
  path = Some Hit;
  answer = told;
}

-- the answer of a request that does not act: its kept reply, marked as kept; the number of a later
-- request; or the limit of all requests of a name
abbrev pub IsUnacted : Acted → Answer → Type 0
IsUnacted (Fresh state given) told = ⊥
IsUnacted (Again given) told = told ≡ kept_answer given
IsUnacted (Stale kept) told = told ≡ answer.Stale kept
IsUnacted (Worn limit) told = told ≡ answer.Worn limit

-- the call has ended with this answer, and nothing was committed; or there was not the memory, and
-- nothing has changed
abbrev pub Answers : Turn → Answer → (old new : GroupView) → Outcome → Type 0
Answers turn told old new (Ok done) =
    IsEnded turn.call (Some (answered_here turn old.log told)) old new
Answers turn told old new (Err fault) = (fault ≡ NoMemory) × (new ≡ old)

-- what a call came to that only memory can fail, as what a commit came to
abbrev pub as_outcome : {E : Type 0} → Result (Unit {0}) E → Outcome
as_outcome (Ok done) = Ok done
as_outcome (Err other) = Err NoMemory

-- ---- what is served

-- The act of a write request is committed, and answered in the same step: what is put is the dirty
-- record of the state behind it, also where that has no object, so the name has a record still.
pub record ServesAct (turn : Turn) (req : Req) (held : TierRec) (state : NameState)
    (given : Reply) (old new : GroupView) (result : Outcome) : Type 0 where
  pub written : Writes turn req given held state old new result
  pub put : Commits (record_put req.name (acted_record state old.agent.moment)) old.stores.cache
      new.stores.cache result
  pub there : OnOk result
      (HasRec (joined new) req.name (Some (acted_record state old.agent.moment)))

-- A write request, by what it does to the record's state: only where it acts something is
-- committed.
abbrev pub ServesWrite : Turn → Req → TierRec → Acted → (old new : GroupView) → Outcome → Type 0
ServesWrite turn req held (Fresh state given) old new result =
    ServesAct turn req held state given old new result
ServesWrite turn req held (Again given) old new result =
    Answers turn (kept_answer given) old new result
ServesWrite turn req held (Stale kept) old new result =
    Answers turn (answer.Stale kept) old new result
ServesWrite turn req held (Worn limit) old new result =
    Answers turn (answer.Worn limit) old new result

-- a client's call, on the record that was read of its name
abbrev pub ServesAsk : Turn → Ask → TierRec → (old new : GroupView) → Outcome → Type 0
ServesAsk turn (Ask.Write req) held old new result =
    ServesWrite turn req held (act held.state req) old new result
ServesAsk turn (Ask.Read client name vector) held old new result =
    Answers turn (looked_answer (look held.state vector)) old new result

-- what it came to, as it is told
abbrev pub served_as : Outcome → Served
served_as (Ok done) = Served.Answered
served_as (Err fault) = Served.Uncommitted fault

-- the same, by what is told
abbrev pub ServesHit : Turn → Ask → TierRec → (old new : GroupView) → Served → Type 0
ServesHit turn ask held old new Served.Answered = ServesAsk turn ask held old new (Ok tt)
ServesHit turn ask held old new (Served.Uncommitted fault) =
    ServesAsk turn ask held old new (Err fault)
ServesHit turn ask held old new Served.Absent = ⊥
ServesHit turn ask held old new (Served.Unread fault) = ⊥

-- What was read of the name decides: why it could not be read, that there is no record, or what the
-- record makes of the call. Without a record nothing changes behind the reading.
abbrev pub ServesRead : Turn → Ask → Result (Option TierRec) CacheFault → (old new : GroupView)
    → Served → Type 0
ServesRead turn ask (Err fault) old new result = (result ≡ Served.Unread fault) × (new ≡ old)
ServesRead turn ask (Ok None) old new result = (result ≡ Served.Absent) × (new ≡ old)
ServesRead turn ask (Ok (Some held)) old new result = ServesHit turn ask held old new result

-- where there is no record, the cache has none of this name
abbrev pub IsBare : GroupView → (name : List ℕ) → Served → Type 0
IsBare v name Served.Absent = HasRec (joined v) name None
IsBare v name other = Unit {0}

-- A client's call is served: the record of its name is read, which is a step that changes nothing
-- but the cache's store; and from there what was read decides, in one step more. Both are one step
-- too, since the reading commits nothing and answers nobody.
pub record Serves (turn : Turn) (ask : Ask) (old new : GroupView) (result : Served) : Type 0 where
  pub between : GroupView
  pub found : Result (Option TierRec) CacheFault
  pub read : ReadsHere (name_asked ask) old between found
  pub reading : Keeps as_it_is None old between
  pub served : ServesRead turn ask found between new result
  pub serving : Keeps (with_ask ask) None between new
  pub step : Keeps (with_ask ask) None old new
