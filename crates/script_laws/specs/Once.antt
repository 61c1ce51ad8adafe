-- A text has one reading or one fault.
use Rattle.std.specs.Prelude.{◌≡◌, ℕ, List}
use Rattle.script_lang.specs.declared.line.Numbered.{Numbered}
use Rattle.script_lang.specs.declared.cause.Cause.{Cause}
use Rattle.script_lang.specs.Scripts.{IsScript, IsFault}

-- a text reads as one list of lines at most
abbrev pub ReadingIsOne : List ℕ → Type 0
ReadingIsOne bytes =
    (one other : List Numbered) → IsScript bytes one → IsScript bytes other → one ≡ other

-- a script has no fault
abbrev pub ScriptHasNoFault : List ℕ → Type 0
ScriptHasNoFault bytes =
    (said : List Numbered) (line : ℕ) (cause : Cause) → IsScript bytes said
    → IsFault bytes line cause → ⊥

-- a text has one fault at most
abbrev pub FaultIsOne : List ℕ → Type 0
FaultIsOne bytes =
    (line other : ℕ) (cause other_cause : Cause) → IsFault bytes line cause
    → IsFault bytes other other_cause
    → (line ≡ other) × (cause ≡ other_cause)
