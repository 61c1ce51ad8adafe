-- The shape of a history: what its entries show of one another and of the calls, whatever the
-- stores were. Over stores that tell nothing no more is said: an opening can have any state there,
-- and a request that is sent twice can act and yet be told that it is late.
use Rattle.std.specs.Prelude.{◌≡◌, ◌≢◌, ◌≤◌, ◌<◌, ◌+◌, ℕ, Bool, true, false, not, ◌&&◌, ◌||◌, List, [], ◌∷◌, take, length, Option, Some, None}
use Rattle.std.specs.List.{AllByRecursion}
use Rattle.obj_model.specs.declared.reply.Reply.{Reply}
use Rattle.obj_model.specs.declared.reply.Reply.TheVariants as reply
use Rattle.obj_model.specs.declared.req.Req.{Req}
use Rattle.obj_model.specs.declared.tier.Kind.{Kind}
use Rattle.obj_model.specs.declared.tier.Kind.TheVariants as kind
use Rattle.obj_model.specs.declared.tier.Mode.TheVariants as mode
use Rattle.obj_model.specs.declared.tier.Path.{Path}
use Rattle.obj_model.specs.declared.tier.Path.TheVariants as path
use Rattle.tier_chron.specs.Calls.{Call, call_of}
use Rattle.tier_chron.specs.Legal.{IsOrdered}
use Rattle.tier_chron.specs.Logs.{Log}
use Rattle.tier_chron.specs.Places.{act_at}
use Rattle.tier_chron.specs.declared.answer.AgentDid.TheVariants as did
use Rattle.tier_chron.specs.declared.answer.Answer.{Answer}
use Rattle.tier_chron.specs.declared.answer.Answer.TheVariants as answer
use Rattle.tier_chron.specs.declared.asked.Asked.{Asked}
use Rattle.tier_chron.specs.declared.asked.Asked.TheVariants.{Write, Read, Flush, Finish, Evict, Drain, Agent, Start}
use Rattle.tier_chron.specs.declared.entries.Act.{Act}
use Rattle.tier_chron.specs.declared.entries.Logged.{Logged}
use Rattle.obj_model.specs.Limits.{number_limit}

-- ---- acts and their calls

-- the call has none of these acts
abbrev pub HasNoAct : ℕ → List Act → Type 0
HasNoAct call acts = AllByRecursion (λ a. a.call ≢ call) acts

-- at most one of these acts is the call's
abbrev pub HasOneAct : ℕ → List Act → Type 0
HasOneAct call [] = Unit {0}
HasOneAct call (a ∷ acts) = (a.call ≡ call → HasNoAct call acts) × HasOneAct call acts

-- each act of the call, where there is one, does what was asked
abbrev pub DoesAsked : ℕ → Asked → List Act → Type 0
DoesAsked call asked acts = AllByRecursion (λ a. a.call ≡ call → asked ≡ Write a.req) acts

-- no call has two acts
abbrev pub AreSingle : List Act → Type 0
AreSingle [] = Unit {0}
AreSingle (a ∷ acts) = HasNoAct a.call acts × AreSingle acts

-- an act does what its call asked, and has the call's line
abbrev pub IsAskedBy : Act → Option Call → Type 0
IsAskedBy a None = ⊥
IsAskedBy a (Some c) = (c.asked ≡ Write a.req) × (c.line ≡ Some a.line)

-- a call began at no more acts than there are, and none of those is its own
pub record IsBegun (acts : List Act) (c : Call) : Type 0 where
  pub begun : c.begin ≤ length acts
  pub later : HasNoAct c.number (take c.begin acts)

-- calls come one after another: under numbers of their own, and none begins before an earlier one
abbrev pub AreInTurn : List Call → Type 0
AreInTurn [] = Unit {0}
AreInTurn (c ∷ calls) =
    AllByRecursion (λ d. (c.begin ≤ d.begin) × (d.number ≢ c.number)) calls × AreInTurn calls

-- ---- which answers a call may have

-- what a call can meet that reads a record: a number at its end, a disk that fails, a value that
-- spells nothing
abbrev pub is_reading_fault : Answer → Bool
is_reading_fault (answer.Worn limit) = true
is_reading_fault (answer.DiskFault pool) = true
is_reading_fault (answer.BadRecord pool name) = true
is_reading_fault other = false

-- what a call can meet that commits too: no room
abbrev pub is_commit_fault : Answer → Bool
is_commit_fault (answer.NoSpace pool used need limit) = true
is_commit_fault other = is_reading_fault other

-- what a call can meet that opens pools again: what stands there is no journal
abbrev pub is_start_fault : Answer → Bool
is_start_fault (answer.Damaged pool at) = true
is_start_fault other = is_commit_fault other

-- what a call can meet that waits: a start of the cache in between. A write request that ends by
-- one of all these may still act.
abbrev pub is_fault : Answer → Bool
is_fault (answer.Restarted was now) = true
is_fault other = is_start_fault other

-- the call was answered nothing but faults
abbrev pub HasOnlyFaults : ℕ → List Logged → Type 0
HasOnlyFaults call answers = AllByRecursion (λ l. l.call ≡ call → is_fault l.answer ≡ true) answers

-- work that holds up readings: a flush does not
abbrev pub holds_readings : Kind → Bool
holds_readings kind.Flush = false
holds_readings other = true

-- work that holds up flushes and evictions: with reads at the base there is no record to wait for
abbrev pub holds_moves : Kind → Bool
holds_moves kind.Read = false
holds_moves other = true

-- an answer to a write request
abbrev pub is_of_write : Answer → Bool
is_of_write (answer.Done ver kept) = true
is_of_write (answer.Refused at why ver kept) = true
is_of_write (answer.Stale kept) = true
is_of_write (answer.Blocked kind opid) = true
is_of_write (answer.Full micro) = true
is_of_write other = false

-- an answer to a reading, which is never kept
abbrev pub is_of_read : Answer → Bool
is_of_read (answer.Values ver outs) = true
is_of_read (answer.Refused at why ver false) = true
is_of_read (answer.Blocked kind opid) = holds_readings kind
is_of_read other = false

-- an answer to a flush that waits for its end
abbrev pub is_of_flush : Answer → Bool
is_of_flush (answer.Flushed seq) = true
is_of_flush answer.Clean = true
is_of_flush answer.Absent = true
is_of_flush (answer.Again flushed now) = true
is_of_flush (answer.Blocked kind opid) = holds_moves kind
is_of_flush other = false

-- an answer to a flush that only begins
abbrev pub is_of_begin : Answer → Bool
is_of_begin (answer.Begun opid) = true
is_of_begin answer.Clean = true
is_of_begin answer.Absent = true
is_of_begin (answer.Blocked kind opid) = holds_moves kind
is_of_begin other = false

-- an answer to the finish of a begun flush
abbrev pub is_of_finish : Answer → Bool
is_of_finish (answer.Flushed seq) = true
is_of_finish (answer.Again flushed now) = true
is_of_finish answer.NoBegun = true
is_of_finish other = false

-- an answer to an eviction
abbrev pub is_of_evict : Answer → Bool
is_of_evict (answer.Evicted seq) = true
is_of_evict (answer.Dirty seq) = true
is_of_evict answer.Absent = true
is_of_evict (answer.Blocked kind opid) = holds_moves kind
is_of_evict other = false

-- an answer to a drain; in the proxying mode it is not turned away
abbrev pub is_of_drain : Answer → Bool
is_of_drain answer.Drained = true
is_of_drain (answer.Left count name kind opid) = true
is_of_drain (answer.NotProxy mode.Proxy) = false
is_of_drain (answer.NotProxy other) = true
is_of_drain other = false

-- an answer to a turn of the agent
abbrev pub is_of_agent : Answer → Bool
is_of_agent (answer.Agent did) = true
is_of_agent other = false

-- Whether what was asked may be answered so. A full history and want of memory are never logged. A
-- flush that only begins, an eviction and a start end with their first step, so no start of the
-- cache comes in between; the first of them commits nothing.
abbrev pub may_answer : Asked → Answer → Bool
may_answer (Write req) x = is_of_write x || is_fault x
may_answer (Read client name vector) x = is_of_read x || is_fault x
may_answer (Flush name blocking false) x = is_of_flush x || is_fault x
may_answer (Flush name blocking true) x = is_of_begin x || is_reading_fault x
may_answer (Finish name) x = is_of_finish x || is_fault x
may_answer (Evict name) x = is_of_evict x || is_commit_fault x
may_answer Drain x = is_of_drain x || is_fault x
may_answer Agent x = is_of_agent x || is_fault x
may_answer Start x = is_start_fault x

-- ---- what the parts of an answer say of one another

-- The numbers of an answer agree, whatever pools and calls there are: the limit of all counts, a
-- cache above its target, an epoch that rose, a record that is another than the one written back,
-- too much for the room. Whose numbers they are is said where pools and calls are known.
abbrev pub NumbersAgree : Answer → Type 0
NumbersAgree (answer.Worn limit) = limit ≡ number_limit
NumbersAgree (answer.Full micro) = 1000000 < micro
NumbersAgree (answer.Restarted was now) = was < now
NumbersAgree (answer.Again flushed now) = flushed ≢ now
NumbersAgree (answer.Agent (did.Again name flushed now)) = flushed ≢ now
NumbersAgree (answer.NoSpace pool used need limit) = limit < used + need
NumbersAgree other = Unit {0}

-- ways on which a write request can be served
abbrev pub is_way_of_write : Path → Bool
is_way_of_write path.ProxyRead = false
is_way_of_write other = true

-- ways on which a reading can be served
abbrev pub is_way_of_read : Path → Bool
is_way_of_read path.ProxyWrite = false
is_way_of_read other = true

-- the answer of a request that was served
abbrev pub is_served : Answer → Bool
is_served (answer.Done ver kept) = true
is_served (answer.Refused at why ver kept) = true
is_served (answer.Values ver outs) = true
is_served (answer.Stale kept) = true
is_served other = false

-- an answer that can come behind the choice of this way: reads at the base turn away what would be
-- promoted or written there, and all else that turns a request away comes before
abbrev pub goes_with : Answer → Path → Bool
goes_with (answer.Blocked kind.Read opid) path.Promote = true
goes_with (answer.Blocked kind.Read opid) path.ProxyWrite = true
goes_with (answer.Blocked kind opid) way = false
goes_with (answer.Full micro) way = false
goes_with other way = true

-- Whether an answer may tell of this way. Only requests of clients have one: each that was served,
-- and none that was turned away before; a fault can come before and behind the choice.
abbrev pub may_go : Asked → Answer → Option Path → Bool
may_go (Write req) x None = not (is_served x)
may_go (Write req) x (Some way) = is_way_of_write way && goes_with x way
may_go (Read client name vector) x None = not (is_served x)
may_go (Read client name vector) x (Some way) = is_way_of_read way && goes_with x way
may_go other x None = true
may_go other x (Some way) = false

-- ---- which acts stand beside an answer

-- the act that gave an answer this reply
abbrev pub own_act : Logged → Req → Reply → Act
own_act l req given = record { call = l.call; line = l.line; req = req; reply = given }

-- Beside an answer to a write request: a reply that is not kept is the call's act, and the answer's
-- place is the act's number, also where other acts came before the answer; a call that was turned
-- away has no act.
abbrev pub StandsBeside : List Act → Req → Logged → Answer → Type 0
StandsBeside acts req l (answer.Done ver false) =
    act_at acts l.place ≡ Some (own_act l req (reply.Done ver))
StandsBeside acts req l (answer.Refused at why ver false) =
    act_at acts l.place ≡ Some (own_act l req (reply.Refused at why ver))
StandsBeside acts req l (answer.Blocked kind opid) = HasNoAct l.call acts
StandsBeside acts req l (answer.Full micro) = HasNoAct l.call acts
StandsBeside acts req l other = Unit {0}

-- beside an answer to any call; only a write request has acts at all
abbrev pub Stands : List Act → Asked → Logged → Type 0
Stands acts (Write req) l = StandsBeside acts req l l.answer
Stands acts other l = Unit {0}

-- an answer has its call's line and begin, is one that the call may have, with numbers that agree
-- and a way that it may have, and stands beside the right acts
pub record IsAnswerTo (acts : List Act) (l : Logged) (c : Call) : Type 0 where
  pub line : c.line ≡ Some l.line
  pub begin : c.begin ≡ l.begin
  pub kind : may_answer c.asked l.answer ≡ true
  pub numbers : NumbersAgree l.answer
  pub way : may_go c.asked l.answer l.path ≡ true
  pub beside : Stands acts c.asked l

abbrev pub IsAnswered : List Act → Logged → Option Call → Type 0
IsAnswered acts l None = ⊥
IsAnswered acts l (Some c) = IsAnswerTo acts l c

-- the shape of a history beside the calls of its group
pub record IsShaped (calls : List Call) (log : Log) : Type 0 where
  pub ordered : IsOrdered log
  pub in_turn : AreInTurn calls
  pub begun : AllByRecursion (IsBegun log.acts) calls
  pub single : AreSingle log.acts
  pub asked : AllByRecursion (λ a. IsAskedBy a (call_of calls a.call)) log.acts
  pub answered : AllByRecursion (λ l. IsAnswered log.acts l (call_of calls l.call)) log.answers
