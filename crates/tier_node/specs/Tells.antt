-- What a call is told that cannot go on.
use Rattle.std.specs.Prelude.{◌≡◌, ◌⊎◌, ◌<◌, ◌≤◌, ◌+◌, ℕ, true, length, Option, Some, None}
use Rattle.obj_model.specs.Limits.{number_limit}
use Rattle.obj_model.specs.declared.change.Pool.TheVariants.{Cache, Base}
use Rattle.tier_chron.specs.Logs.{Log}
use Rattle.tier_chron.specs.Shapes.{may_answer}
use Rattle.tier_chron.specs.declared.answer.Answer.{Answer}
use Rattle.tier_chron.specs.declared.answer.Answer.TheVariants as answer
use Rattle.tier_chron.specs.declared.asked.Asked.{Asked}
use Rattle.tier_chron.specs.declared.entries.Logged.{Logged}
use Rattle.tier_core.specs.Ends.{IsEnded}
use Rattle.tier_core.specs.Turns.{IsTurn}
use Rattle.tier_core.specs.declared.turns.Turn.{Turn}
use Rattle.tier_node.specs.declared.outcome.Outcome.{Outcome}
use Rattle.tier_node.specs.declared.outcome.Outcome.TheVariants.{Answered, NoMemory}
use Rattle.tier_view.specs.Calls.{entry_of}
use Rattle.tier_view.specs.Views.{GroupView}
use Rattle.tier_view.specs.Whole.{IsFirstEpoch, faults_told}

-- what a fault tells is so: a limit is that of all numbers, more is needed than is left, and a disk
-- failed more often than answers tell
abbrev pub IsSo : GroupView → Answer → Type 0
IsSo v (answer.Worn limit) = limit ≡ number_limit
IsSo v (answer.NoSpace pool used need limit) = limit < used + need
IsSo v (answer.DiskFault Cache) = faults_told Cache v.log.answers < v.stores.cache.faults
IsSo v (answer.DiskFault Base) = faults_told Base v.log.answers < v.stores.base.faults
IsSo v (answer.Damaged pool at) = Unit {0}
IsSo v (answer.BadRecord pool name) = Unit {0}
IsSo v other = ⊥

-- the same of an answer, if there is one
abbrev pub IsSoIf : GroupView → Option Answer → Type 0
IsSoIf v None = Unit {0}
IsSoIf v (Some told) = IsSo v told

-- the cache was started in between: the call of this turn began in the epoch `was`
abbrev pub IsRestart : GroupView → Turn → Answer → Type 0
IsRestart v turn (answer.Restarted was now) =
    (was < now) × (now ≤ v.standing.cache_epoch)
    × IsFirstEpoch v.calls.entries (entry_of v.calls.entries turn.call) was
IsRestart v turn other = ⊥

-- what is told to the call of this turn is so
abbrev pub IsCause : GroupView → Turn → Answer → Type 0
IsCause v turn told = IsSo v told ⊎ IsRestart v turn told

-- the call of this turn is in flight, and asked what may be answered so
pub record MayBeTold (v : GroupView) (turn : Turn) (told : Answer) : Type 0 where
  pub asked : Asked
  pub turn_is : IsTurn v turn asked
  pub kind : may_answer asked told ≡ true

-- the answer at the present number of acts, on no way
abbrev pub told_here : Turn → Log → Answer → Logged
told_here turn log told = record {
  call = turn.call;
  line = turn.line;
  begin = turn.begin;
  place = length log.acts;
  end = length log.acts;
  path = None;
  answer = told;
}

-- there was not the memory, and the call is over without an answer
abbrev pub Drops : (call : ℕ) → (old new : GroupView) → Outcome → Type 0
Drops call old new outcome = (outcome ≡ NoMemory) × IsEnded call None old new

-- the call was answered so, and is over; or there was not the memory for that
abbrev pub Tells : Turn → Answer → (old new : GroupView) → Outcome → Type 0
Tells turn told old new outcome =
    (outcome ≡ Answered turn.call) × IsEnded turn.call (Some (told_here turn old.log told)) old new
    ⊎ Drops turn.call old new outcome

-- by what was met: want of memory has no answer
abbrev pub TellsIf : Turn → Option Answer → (old new : GroupView) → Outcome → Type 0
TellsIf turn None old new outcome = Drops turn.call old new outcome
TellsIf turn (Some told) old new outcome = Tells turn told old new outcome
