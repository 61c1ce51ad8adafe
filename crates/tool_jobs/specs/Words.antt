-- What the words of the command line ask for, of the jobs and flags that stand so far.
use Rattle.std.specs.Prelude.{ℕ, List, Option, Some, None, codes, option_and_then}
use Rattle.std.specs.Prelude.{if◌then◌else◌}
use Rattle.tool_jobs.specs.declared.asking.Chosen.{Chosen}
use Rattle.tool_jobs.specs.declared.asking.Chosen.TheVariants as chosen
use Rattle.tool_words.specs.Words.{invocation_of}
use Rattle.tool_words.specs.declared.Invocation.{Invocation}
use Rattle.tool_words.specs.declared.Job.TheVariants.{Run, Check, Show, Gen}

-- what is put where the words of the command line are refused
abbrev pub usage_text : List ℕ
usage_text =
    codes "usage: run|check|show|gen [--paths] [--history] [--summary] [--count N] [--start N]\n"

-- the job, if it stands: `show` does not yet
abbrev pub job_of : Invocation → Option Chosen
job_of i = elim i.job [
  | Run ↦ Some chosen.Run
  | Check ↦ Some chosen.Check
  | Show ↦ None
  | Gen ↦ Some (chosen.Gen i.count i.start)
]

-- the job, where no flag is given: `--paths`, `--history` and `--summary` do not stand yet
abbrev pub offered : Invocation → Option Chosen
offered i =
    if i.paths then None else if i.history then None else if i.summary then None else job_of i

-- what the words ask for, if it stands
abbrev pub asked_of : List (List ℕ) → Option Chosen
asked_of words = option_and_then offered (invocation_of words)
