-- All that the program does, from the words of its command line to its status.
use Rattle.std.specs.Prelude.{◌≡◌, ◌⊎◌, ℕ, List, Some}
use Rattle.tier_tool.specs.Runs.{RunsLines}
use Rattle.tool_jobs.specs.Jobs.{IsMisused, Judges, LacksForWords, Reads, TellsCount, TellsLoad}
use Rattle.tool_jobs.specs.Outside.{Outside}
use Rattle.tool_jobs.specs.Words.{asked_of}
use Rattle.tool_jobs.specs.declared.asking.Chosen.{Chosen}
use Rattle.tool_jobs.specs.declared.asking.Chosen.TheVariants as chosen

-- how a job ends that the words ask for
abbrev pub JobEnds : Chosen → Outside → Outside → ℕ → Type 0
JobEnds chosen.Run old new status = Reads (Judges RunsLines) old new status
JobEnds chosen.Check old new status = Reads (Judges TellsCount) old new status
JobEnds (chosen.Gen count start) old new status = TellsLoad count start old new status

-- the words ask for a job that stands, and it ended
pub record DoesJob (words : List (List ℕ)) (old new : Outside) (status : ℕ) : Type 0 where
  pub job : Chosen
  pub asks : asked_of words ≡ Some job
  pub ends : JobEnds job old new status

-- all that the program does
abbrev pub Ran : (words : List (List ℕ)) → Outside → Outside → (status : ℕ) → Type 0
Ran words old new status =
    LacksForWords old new status ⊎ IsMisused words old new status ⊎ DoesJob words old new status
