-- A client's call begins: what comes of it.
use Rattle.std.specs.FinMap as fin
use Rattle.std.specs.Prelude.{◌≡◌, ◌≤◌, ◌<◌, ◌⊎◌, ◌+◌, ℕ, Bool, true, false, length, Option, Some, None}
use Rattle.cache_pool.specs.declared.fault.CacheFault.{CacheFault}
use Rattle.cache_pool.specs.declared.fault.CacheFault.TheVariants.{Store, BadRecord}
use Rattle.obj_model.specs.Limits.{number_limit}
use Rattle.obj_model.specs.declared.change.Pool.TheVariants.{Cache}
use Rattle.obj_model.specs.declared.tier.Path.{Path}
use Rattle.obj_model.specs.declared.tier.Path.TheVariants.{Hit}
use Rattle.obj_ops.specs.Stores as plain
use Rattle.store_face.specs.declared.fault.StoreFault.{StoreFault}
use Rattle.store_face.specs.declared.fault.StoreFault.TheVariants as store
use Rattle.tier_chron.specs.Weights.{bytes_of, cut, entries_of}
use Rattle.tier_chron.specs.declared.answer.Answer.{Answer}
use Rattle.tier_chron.specs.declared.answer.Answer.TheVariants as answer
use Rattle.tier_core.specs.Blocks.{blocked_here}
use Rattle.tier_core.specs.Held.{IsFull, IsWorn, entries_limit}
use Rattle.tier_core.specs.Keeps.{MayBeAsked}
use Rattle.tier_core.specs.Serves.{IsBare, Serves, asked_of}
use Rattle.tier_core.specs.Turns.{IsTurn}
use Rattle.tier_core.specs.declared.serving.Served.{Served}
use Rattle.tier_core.specs.declared.serving.Served.TheVariants as served
use Rattle.tier_core.specs.declared.turns.Turn.{Turn}
use Rattle.tier_flight.specs.Busy.{busy_at}
use Rattle.tier_flight.specs.declared.busy.Busy.{Busy}
use Rattle.tier_moves.specs.Asks.{want_of, writes}
use Rattle.tier_moves.specs.Choices.{Refuses, Where}
use Rattle.tier_moves.specs.Endings.{Drops, Ends, failed_here}
use Rattle.tier_moves.specs.Stands.{IsFreshOn, stand_of}
use Rattle.tier_moves.specs.Ways.{Goes}
use Rattle.tier_moves.specs.declared.begun.Begun.{Begun}
use Rattle.tier_moves.specs.declared.begun.Begun.TheVariants.{Unlawful, HistoryFull, NotReady, Answered, Unbuilt, NoMemory}
use Rattle.tier_moves.specs.declared.begun.Unbuilt.TheVariants as unbuilt
use Rattle.tier_moves.specs.declared.standing.Stand.{Stand}
use Rattle.tier_moves.specs.declared.standing.Stand.TheVariants as stand
use Rattle.tier_runs.specs.Runs.{MayMake}
use Rattle.tier_types.specs.Flights.{name_asked}
use Rattle.tier_types.specs.declared.flight.Ask.{Ask}
use Rattle.tier_view.specs.Joining.{SameEpoch}
use Rattle.tier_view.specs.Laws.{Keeps}
use Rattle.tier_view.specs.Steps.{opened_call}
use Rattle.tier_view.specs.Views.{GroupView}
use Rattle.tier_view.specs.Whole.{IsReady, faults_told}

-- ---- a call that was entered just now

-- the turn of the call that is entered next, on this line
abbrev pub turn_next : (line : ℕ) → GroupView → Turn
turn_next line v = record { call = v.calls.last + 1; line = line; begin = length v.log.acts }

-- the group where the call is entered
abbrev pub entered : (line : ℕ) → Ask → GroupView → GroupView
entered line ask v = opened_call (Some line) (asked_of ask) v

-- The call of this turn asked this, and began nothing yet; the group is ready; and its history is
-- not full.
pub record IsEnteredNow (v : GroupView) (turn : Turn) (ask : Ask) : Type 0 where
  pub ready : IsReady v.stores v.standing
  pub turn_is : IsTurn v turn (asked_of ask)
  pub fresh : IsFreshOn v turn.call
  pub few : length v.log.answers ≤ entries_limit

-- a step that enters no call, and leaves the epoch
pub record IsStepOf (v new : GroupView) : Type 0 where
  pub other : plain.Store → plain.Store
  pub makes : MayMake v new other
  pub keeps : Keeps other None v new
  pub epoch : SameEpoch v new

-- ---- how it ends by a fault

-- what a fault tells is so
abbrev pub IsTrueFault : GroupView → Answer → Type 0
IsTrueFault v (answer.Worn limit) = limit ≡ number_limit
IsTrueFault v (answer.NoSpace pool used need limit) = limit < used + need
IsTrueFault v (answer.DiskFault Cache) =
    faults_told Cache v.log.answers < v.stores.cache.faults
IsTrueFault v (answer.Damaged pool at) = Unit {0}
IsTrueFault v (answer.BadRecord pool name) = Unit {0}
IsTrueFault v other = ⊥

-- a call that met a fault had no way yet, or that of a record
abbrev pub IsWayHere : Option Path → Type 0
IsWayHere None = Unit {0}
IsWayHere (Some Hit) = Unit {0}
IsWayHere (Some other) = ⊥

-- a client's call of this turn, which is in flight, met this fault
pub record MayFail (v : GroupView) (turn : Turn) (way : Option Path) (told : Answer) : Type 0
  where
    pub ask : Ask
    pub turn_is : IsTurn v turn (asked_of ask)
    pub way_is : IsWayHere way
    pub fault : IsTrueFault v told

-- a fault is answered, or there was not the memory
abbrev pub Fails : Turn → (way : Option Path) → Answer → (v new : GroupView) → Begun → Type 0
Fails turn way told v new outcome =
    Ends turn (failed_here turn (length v.log.acts) way told) v new outcome
    ⊎ Drops turn NoMemory v new outcome

-- by what was met: want of memory has no answer
abbrev pub MayEndBy : GroupView → Turn → (way : Option Path) → Option Answer → Type 0
MayEndBy v turn way None = Unit {0}
MayEndBy v turn way (Some told) = MayFail v turn way told

abbrev pub EndsBy : Turn → (way : Option Path) → Option Answer → (v new : GroupView) → Begun
    → Type 0
EndsBy turn way None v new outcome = Drops turn NoMemory v new outcome
EndsBy turn way (Some told) v new outcome = Fails turn way told v new outcome

-- ---- it is served

-- the answer of a fault of the cache's store
abbrev pub told_of : StoreFault → Option Answer
told_of store.Disk = Some (answer.DiskFault Cache)
told_of (store.BadImage at) = Some (answer.Damaged Cache at)
told_of (store.NoSpace used need limit) = Some (answer.NoSpace Cache used need limit)
told_of (store.Worn limit) = Some (answer.Worn limit)
told_of store.NoMemory = None

-- the answer where a record was not read
abbrev pub told_unread : CacheFault → Option Answer
told_unread (Store fault) = told_of fault
told_unread (BadRecord name) = Some (answer.BadRecord Cache name)

-- What came of the record decides: the call was answered; there is none, so it goes the way of its
-- mode; it was not read, which comes before a way is chosen; or the act was not committed.
abbrev pub EndsServed : Turn → Ask → Served → (v new : GroupView) → Begun → Type 0
EndsServed turn ask served.Answered v new outcome =
    (outcome ≡ Answered turn.call) × (new ≡ v)
EndsServed turn ask served.Absent v new outcome = Goes turn ask v new outcome
EndsServed turn ask (served.Unread fault) v new outcome =
    EndsBy turn None (told_unread fault) v new outcome
EndsServed turn ask (served.Uncommitted fault) v new outcome =
    EndsBy turn (Some Hit) (told_of fault) v new outcome

-- the call was served from the record of its name, and ended by what came of it
pub record ServesCall (turn : Turn) (ask : Ask) (v new : GroupView) (outcome : Begun) : Type 0
  where
    pub behind : GroupView
    pub came : Served
    pub serves : Serves turn ask v behind came
    pub bare : IsBare behind (name_asked ask) came
    pub ends : EndsServed turn ask came behind new outcome

-- ---- it is turned away

-- it was answered with the work that holds it up, by the table of what work keeps out
pub record IsTurnedAway (turn : Turn) (ask : Ask) (v new : GroupView) (outcome : Begun) : Type 0
  where
    pub busy : Busy
    pub held : busy_at (fin.get v.traffic.flights (name_asked ask)) (want_of ask) ≡ Some busy
    pub ends : Ends turn (blocked_here turn (length v.log.acts) busy None) v new outcome

-- or there was not the memory
abbrev pub TurnsAway : Turn → Ask → (v new : GroupView) → Begun → Type 0
TurnsAway turn ask v new outcome =
    IsTurnedAway turn ask v new outcome ⊎ Drops turn NoMemory v new outcome

-- ---- all of it

-- what the work on its name means for it decides
abbrev pub BeginsBy : Stand → Turn → Ask → (v new : GroupView) → Begun → Type 0
BeginsBy stand.Clear turn ask v new outcome = ServesCall turn ask v new outcome
BeginsBy stand.HeldUp turn ask v new outcome = TurnsAway turn ask v new outcome
BeginsBy stand.Left turn ask v new outcome =
    Drops turn (Unbuilt unbuilt.Adoption) v new outcome
BeginsBy stand.Behind turn ask v new outcome =
    Drops turn (Unbuilt unbuilt.Reads) v new outcome

abbrev pub BeginsOn : Turn → Ask → (v new : GroupView) → Begun → Type 0
BeginsOn turn ask v new outcome =
    BeginsBy (stand_of (fin.get v.traffic.flights (name_asked ask)) (writes ask)) turn ask v new
    outcome

-- a call that meets numbers at their end is told so, before anything else
abbrev pub BeginsEntered : (worn : Bool) → Turn → Ask → (v new : GroupView) → Begun → Type 0
BeginsEntered true turn ask v new outcome =
    Fails turn None (answer.Worn number_limit) v new outcome
BeginsEntered false turn ask v new outcome = BeginsOn turn ask v new outcome

-- The call is entered, and told Worn exactly where numbers had come to their end before; or there
-- was not the memory for it, and nothing has changed.
abbrev pub EntersCall : (line : ℕ) → Ask → (old new : GroupView) → Begun → Type 0
EntersCall line ask old new outcome =
    Where (IsWorn old)
    (BeginsEntered true (turn_next line old) ask (entered line ask old) new outcome)
    (BeginsEntered false (turn_next line old) ask (entered line ask old) new outcome)
    ⊎ Refuses NoMemory old new outcome

-- Exactly where the group is ready the call is entered.
abbrev pub BeginsReady : (line : ℕ) → Ask → (old new : GroupView) → Begun → Type 0
BeginsReady line ask old new outcome =
    Where (IsReady old.stores old.standing) (EntersCall line ask old new outcome)
    (Refuses NotReady old new outcome)

-- A client's call begins: what is no client's is refused; so is any where the history is full, with
-- how much it has.
abbrev pub ClientBegins : (line : ℕ) → Ask → (old new : GroupView) → Begun → Type 0
ClientBegins line ask old new outcome =
    Where (MayBeAsked (asked_of ask))
    (Where (IsFull old)
    (Refuses (HistoryFull (cut (entries_of old.log)) (cut (bytes_of old.log))) old new outcome)
    (BeginsReady line ask old new outcome))
    (Refuses Unlawful old new outcome)
