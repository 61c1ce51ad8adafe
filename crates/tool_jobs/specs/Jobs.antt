-- How the jobs of the program end, but for the carrying out of a script.
use Rattle.std.specs.Prelude.{◌≡◌, ◌<◌, ◌⊎◌, ℕ, List, [], length, Option, None, IfSome}
use Rattle.load_gen.specs.Script.{script_of}
use Rattle.report_text.specs.Faults.{accepted_text, fault_text}
use Rattle.script_lang.specs.Scripts.{IsScript, IsFault}
use Rattle.script_lang.specs.declared.cause.Cause.{Cause}
use Rattle.script_lang.specs.declared.line.Numbered as lang
use Rattle.tier_outside.specs.Causes.{Rose}
use Rattle.tier_outside.specs.Streams.{Loses, StreamState}
use Rattle.tool_jobs.specs.Outside.{Outside, PairSeen, Targets, outside, targets}
use Rattle.tool_jobs.specs.Putting.{MakesAndPuts, Puts}
use Rattle.tool_jobs.specs.Words.{asked_of, usage_text}
use Rattle.tool_jobs.specs.declared.reading.Unread.{Unread}
use Rattle.tool_jobs.specs.declared.reading.Unread.TheVariants as unread

-- ---- what ends a job before it does anything

-- there was no memory, and nothing outside was touched but a source that was read: status 9
pub record LacksMemory (old new : Targets) (status : ℕ) : Type 0 where
  pub ended : status ≡ 9
  pub untouched : new ≡ old

-- the words ask for nothing that stands: the usage is told, with status 2; nothing is read, and no
-- disk is touched
pub record IsMisused (words : List (List ℕ)) (old new : Outside) (status : ℕ) : Type 0 where
  pub refused : asked_of words ≡ None
  pub unread : new.script ≡ old.script
  pub pairs_same : new.targets.pairs ≡ old.targets.pairs
  pub told : Puts usage_text 2 old.targets.out new.targets.out status

-- ---- the script

-- nothing is left of the source, where it tells
abbrev pub IsAtEnd : Option (List ℕ) → Type 0
IsAtEnd left = IfSome left (λ bytes. bytes ≡ [])

-- the source was read whole: to its end, or past the most bytes that a script may have
abbrev pub IsReadWhole : Option (List ℕ) → List ℕ → Type 0
IsReadWhole left script = IsAtEnd left ⊎ (268435456 < length script)

-- the source gave some bytes
abbrev pub GaveSome : Option (List ℕ) → Option (List ℕ) → Type 0
GaveSome left_old left_new = (given : List ℕ) × Loses left_old left_new given

-- the source failed before its end: status 7, and nothing else is touched
pub record SourceFailed (old new : Outside) (status : ℕ) : Type 0 where
  pub ended : status ≡ 7
  pub cause : Rose old.script.faults new.script.faults
  pub gave : GaveSome old.script.bytes new.script.bytes
  pub untouched : new.targets ≡ old.targets

-- memory lacked while the source was read: status 9, and nothing else is touched
pub record LacksReading (old new : Outside) (status : ℕ) : Type 0 where
  pub gave : GaveSome old.script.bytes new.script.bytes
  pub lacks : LacksMemory old.targets new.targets status

-- the source was read whole, and this holds of the bytes that it gave
pub record ReadsScript (old new : StreamState) (P : List ℕ → Type 0) : Type 0 where
  pub script : List ℕ
  pub given : Loses old.bytes new.bytes script
  pub whole : IsReadWhole new.bytes script
  pub ends : P script

-- the script is read whole, and then the job ends so
abbrev pub Reads : (List ℕ → Targets → Targets → ℕ → Type 0) → Outside → Outside → ℕ → Type 0
Reads ends old new status =
    SourceFailed old new status ⊎ LacksReading old new status
    ⊎ ReadsScript old.script new.script (λ script. ends script old.targets new.targets status)

-- the script is refused: its fault is told, with status 4, and no disk is touched
pub record TellsFault (script : List ℕ) (old new : Targets) (status : ℕ) : Type 0 where
  pub line : ℕ
  pub cause : Cause
  pub fault : IsFault script line cause
  pub pairs_same : new.pairs ≡ old.pairs
  pub told : MakesAndPuts (fault_text line cause) 4 old.out new.out status

-- the script is accepted, and its lines, those that are neither blank nor comments, end so
pub record AcceptsScript (ends : List lang.Numbered → Targets → Targets → ℕ → Type 0)
    (script : List ℕ) (old new : Targets) (status : ℕ) : Type 0 where
  pub lines : List lang.Numbered
  pub is_script : IsScript script lines
  pub ended : ends lines old new status

-- a script is refused, or accepted; or memory lacked to know it
abbrev pub Judges : (List lang.Numbered → Targets → Targets → ℕ → Type 0) → List ℕ → Targets
    → Targets → ℕ → Type 0
Judges ends script old new status =
    LacksMemory old new status ⊎ TellsFault script old new status
    ⊎ AcceptsScript ends script old new status

-- ---- the jobs

-- the number of lines is told, with status 0, and no disk is touched
pub record TellsCount (lines : List lang.Numbered) (old new : Targets) (status : ℕ) : Type 0 where
  pub pairs_same : new.pairs ≡ old.pairs
  pub told : MakesAndPuts (accepted_text (length lines)) 0 old.out new.out status

-- the generated script is told, with status 0; nothing is read, and no disk is touched
pub record TellsLoad (count start : ℕ) (old new : Outside) (status : ℕ) : Type 0 where
  pub unread : new.script ≡ old.script
  pub pairs_same : new.targets.pairs ≡ old.targets.pairs
  pub told : MakesAndPuts (script_of count start) 0 old.targets.out new.targets.out status

-- memory lacked to know what the words ask for: status 9, and nothing is touched
pub record LacksForWords (old new : Outside) (status : ℕ) : Type 0 where
  pub ended : status ≡ 9
  pub untouched : new ≡ old

-- a script that is only read ends so, whatever the pairs are, which stay
abbrev pub Checks : List ℕ → StreamState → StreamState → ℕ → Type 0
Checks script old new status =
    (pairs : List PairSeen)
    → Judges TellsCount script (targets old pairs) (targets new pairs) status

-- a script is read from its source and checked, whatever the pairs are, which stay
abbrev pub ReadsAndChecks : StreamState → StreamState → StreamState → StreamState → ℕ → Type 0
ReadsAndChecks script_old script_new old new status =
    (pairs : List PairSeen)
    → Reads (Judges TellsCount) (outside script_old (targets old pairs))
    (outside script_new (targets new pairs)) status

-- why a source was not read whole: it failed, or memory lacked
abbrev pub Excuses : Unread → Type 0 → Type 0
Excuses unread.Fault source_rose = source_rose
Excuses unread.NoMemory source_rose = Unit {0}
