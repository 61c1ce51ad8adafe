-- What a step of a start makes of a group, and what is told of it.
use Rattle.std.specs.Prelude.{◌≡◌, ◌⊎◌, ◌+◌, ◌||◌, ◌&&◌, ℕ, Bool, true, false, not, length, Option, Some, None}
use Rattle.cache_pool.specs.declared.fault.CacheFault.TheVariants as cached
use Rattle.obj_model.specs.declared.change.Pool.{Pool}
use Rattle.obj_model.specs.declared.change.Pool.TheVariants as pool
use Rattle.pool_survey.specs.declared.fault.SurveyFault.{SurveyFault}
use Rattle.pool_survey.specs.declared.fault.SurveyFault.TheVariants as survey
use Rattle.store_face.specs.declared.fault.StoreFault.{StoreFault}
use Rattle.store_face.specs.declared.fault.StoreFault.TheVariants as store
use Rattle.tier_chron.specs.declared.answer.Answer.{Answer}
use Rattle.tier_chron.specs.declared.answer.Answer.TheVariants as answer
use Rattle.tier_chron.specs.declared.asked.Asked.{Asked}
use Rattle.tier_chron.specs.declared.asked.Asked.TheVariants as asked
use Rattle.tier_core.specs.Held.{IsFull, IsFullWith}
use Rattle.tier_core.specs.Turns.{HasNoTurn, HasTurn}
use Rattle.tier_core.specs.declared.holding.Fullness.{Fullness}
use Rattle.tier_core.specs.declared.opening.OpenFault.{OpenFault}
use Rattle.tier_core.specs.declared.opening.OpenFault.TheVariants as opening
use Rattle.tier_core.specs.declared.raising.RaiseFault.{RaiseFault}
use Rattle.tier_core.specs.declared.raising.RaiseFault.TheVariants as raising
use Rattle.tier_core.specs.declared.turns.Turn.{Turn}
use Rattle.tier_node.specs.Tells.{Drops, Tells, TellsIf}
use Rattle.tier_node.specs.declared.outcome.Fault.TheVariants as fault
use Rattle.tier_node.specs.declared.outcome.Outcome.{Outcome}
use Rattle.tier_node.specs.declared.outcome.Outcome.TheVariants.{Going, HistoryFull, Sent, Ready, Failed, NoMemory, Nothing}
use Rattle.tier_stop.specs.Needs.{start_needed}
use Rattle.tier_stop.specs.Starts.{Starts}
use Rattle.tier_stop.specs.declared.starting.StartFault.{StartFault}
use Rattle.tier_stop.specs.declared.starting.StartFault.TheVariants as start
use Rattle.tier_stop.specs.declared.starting.Started.{Started}
use Rattle.tier_stop.specs.declared.starting.Started.TheVariants as started
use Rattle.tier_view.specs.Calls.{entry_of}
use Rattle.tier_view.specs.Steps.{opened_call}
use Rattle.tier_view.specs.Views.{GroupView}
use Rattle.tier_view.specs.declared.parts.Entry.{Entry}

-- ---- without a call and a line

-- what is told of a step of a start for this call
abbrev pub told_started : (call : Option ℕ) → Started → Outcome
told_started call started.Ready = Ready
told_started call started.Going = Going call
told_started call (started.Sent number) = Sent number
told_started call (started.Failed f) = Failed (fault.Start f)
told_started call started.NoMemory = NoMemory

-- the step that was needed first was made, or why it was not
pub record StartsBy (line call : Option ℕ) (old new : GroupView) (outcome : Outcome) : Type 0
  where
    pub came : Started
    pub starts : Starts (start_needed old) line call old new came
    pub told : outcome ≡ told_started call came

-- ---- the answers that tell of faults

-- a fault of a pool's store; none tells of want of memory
abbrev pub store_answer : Pool → StoreFault → Option Answer
store_answer p store.Disk = Some (answer.DiskFault p)
store_answer p (store.BadImage at) = Some (answer.Damaged p at)
store_answer p (store.NoSpace used need limit) = Some (answer.NoSpace p used need limit)
store_answer p (store.Worn limit) = Some (answer.Worn limit)
store_answer p store.NoMemory = None

-- a pool was not opened
abbrev pub open_answer : Pool → OpenFault → Option Answer
open_answer p (opening.Store f) = store_answer p f
open_answer p (opening.BadRecord name) = Some (answer.BadRecord p name)
open_answer p other = None

-- the epoch was not raised
abbrev pub raise_answer : RaiseFault → Option Answer
raise_answer (raising.Worn limit) = Some (answer.Worn limit)
raise_answer (raising.Read (cached.Store f)) = store_answer pool.Cache f
raise_answer (raising.Read (cached.BadRecord name)) = Some (answer.BadRecord pool.Cache name)
raise_answer (raising.Commit f) = store_answer pool.Cache f

-- a start was not made
abbrev pub start_answer : StartFault → Option Answer
start_answer (start.Cache f) = open_answer pool.Cache f
start_answer (start.Base f) = open_answer pool.Base f
start_answer (start.Raise f) = raise_answer f

-- ---- those that are not told

-- the sums were not taken for want of memory
abbrev pub lacks_memory : SurveyFault → Bool
lacks_memory (survey.Store p store.NoMemory) = true
lacks_memory survey.NoMemory = true
lacks_memory other = false

-- No answer tells of it: a wrong key of the cache, or a base at another epoch. Neither comes where
-- both stores tell.
abbrev pub is_unsaid : OpenFault → Bool
is_unsaid (opening.Sums f) = not (lacks_memory f)
is_unsaid (opening.OtherEpoch e) = true
is_unsaid other = false

abbrev pub is_untold : StartFault → Bool
is_untold (start.Cache f) = is_unsaid f
is_untold (start.Base f) = is_unsaid f
is_untold (start.Raise f) = false

-- A call that ends with its first step is not answered so: no flush that only begins meets a
-- commit, and neither that nor an eviction opens a store.
abbrev pub is_hard_store : StoreFault → Bool
is_hard_store (store.BadImage at) = true
is_hard_store (store.NoSpace used need limit) = true
is_hard_store other = false

abbrev pub is_hard_open : OpenFault → Bool
is_hard_open (opening.Store f) = is_hard_store f
is_hard_open other = false

abbrev pub is_hard_raise : RaiseFault → Bool
is_hard_raise (raising.Read (cached.Store f)) = is_hard_store f
is_hard_raise (raising.Commit f) = is_hard_store f
is_hard_raise other = false

abbrev pub is_hard : StartFault → Bool
is_hard (start.Cache f) = is_hard_open f
is_hard (start.Base f) = is_hard_open f
is_hard (start.Raise f) = is_hard_raise f

-- a call that asked this ends with its first step
abbrev pub is_brief : Asked → Bool
is_brief (asked.Flush name blocking begin_only) = begin_only
is_brief (asked.Evict name) = true
is_brief other = false

abbrev pub is_brief_in : Option Entry → Bool
is_brief_in None = false
is_brief_in (Some e) = is_brief e.asked

-- the call of an entry is not told so, by whether it ends with its first step
abbrev pub is_untold_to : (brief : Bool) → StartFault → Bool
is_untold_to brief f = is_untold f || (is_hard f && brief)

-- ---- with a call

-- the first where it is so, else the second
abbrev pub IfSo : Bool → (First Second : Type 0) → Type 0
IfSo true First Second = First
IfSo false First Second = Second

-- this is told, and no more has changed
abbrev pub Leaves : Outcome → (old new : GroupView) → Outcome → Type 0
Leaves told old new outcome = (outcome ≡ told) × (new ≡ old)

-- the call is told why a step was not made, and is over; a fault that it cannot be told is the
-- event's
abbrev pub FailsCall : Turn → (brief : Bool) → StartFault → (old new : GroupView) → Outcome
    → Type 0
FailsCall turn brief f old new outcome =
    IfSo (is_untold_to brief f) (Leaves (Failed (fault.Start f)) old new outcome)
    (TellsIf turn (start_answer f) old new outcome)

-- what is told behind the step
abbrev pub EndsStart : Turn → (brief : Bool) → Started → (old new : GroupView) → Outcome → Type 0
EndsStart turn brief (started.Failed f) old new outcome = FailsCall turn brief f old new outcome
EndsStart turn brief started.NoMemory old new outcome = Drops turn.call old new outcome
EndsStart turn brief came old new outcome =
    Leaves (told_started (Some turn.call) came) old new outcome

pub record StartsCall (line : Option ℕ) (turn : Turn) (brief : Bool) (old new : GroupView)
    (outcome : Outcome) : Type 0 where
  pub behind : GroupView
  pub came : Started
  pub starts : Starts (start_needed old) line (Some turn.call) old behind came
  pub ends : EndsStart turn brief came behind new outcome

-- ---- with a line alone

-- the turn of the call that is entered next, on this line
abbrev pub turn_next : (line : ℕ) → GroupView → Turn
turn_next line v = record { call = v.calls.last + 1; line = line; begin = length v.log.acts }

-- the group where a call on this line is entered that asked to start it
abbrev pub with_start : (line : ℕ) → GroupView → GroupView
with_start line v = opened_call (Some line) asked.Start v

-- a call is entered that asked to start the group, told this, and over; or there was not the memory
abbrev pub LogsIf : (line : ℕ) → Option Answer → (old new : GroupView) → Outcome → Type 0
LogsIf line None old new outcome = Leaves NoMemory old new outcome
LogsIf line (Some told) old new outcome =
    Tells (turn_next line old) told (with_start line old) new outcome
    ⊎ Leaves NoMemory old new outcome

abbrev pub FailsLine : (line : ℕ) → StartFault → (old new : GroupView) → Outcome → Type 0
FailsLine line f old new outcome =
    IfSo (is_untold f) (Leaves (Failed (fault.Start f)) old new outcome)
    (LogsIf line (start_answer f) old new outcome)

abbrev pub LogsStart : (line : ℕ) → Started → (old new : GroupView) → Outcome → Type 0
LogsStart line (started.Failed f) old new outcome = FailsLine line f old new outcome
LogsStart line came old new outcome = Leaves (told_started None came) old new outcome

pub record StartsLine (line : ℕ) (old new : GroupView) (outcome : Outcome) : Type 0 where
  pub behind : GroupView
  pub came : Started
  pub starts : Starts (start_needed old) (Some line) None old behind came
  pub logs : LogsStart line came behind new outcome

-- the history is full, and is told with what it has
pub record IsRefusedFull (old new : GroupView) (outcome : Outcome) : Type 0 where
  pub full : Fullness
  pub is : IsFullWith old full
  pub leaves : Leaves (HistoryFull full.entries full.bytes) old new outcome

-- ---- all of it

-- With a call: Nothing exactly where it is not in flight. With a line alone: HistoryFull exactly
-- where the history is full.
abbrev pub StartsFor : (line call : Option ℕ) → (old new : GroupView) → Outcome → Type 0
StartsFor line (Some call) old new outcome =
    ((turn : Turn) × HasTurn old call turn
    × StartsCall line turn (is_brief_in (entry_of old.calls.entries call)) old new outcome)
    ⊎ (HasNoTurn old call × Leaves Nothing old new outcome)
StartsFor (Some line) None old new outcome =
    IsRefusedFull old new outcome ⊎ ((IsFull old → ⊥) × StartsLine line old new outcome)
StartsFor None None old new outcome = StartsBy None None old new outcome
