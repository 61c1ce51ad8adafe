-- What is printed is read back.
use Rattle.std.specs.Prelude.{ℕ, ◌+◌, List, [], ◌∷◌, ◌++◌, map, codes}
use Rattle.std.specs.List.{AllByRecursion, flat_map}
use Rattle.script_lang.specs.declared.line.Line.{Line}
use Rattle.script_lang.specs.declared.line.Line.TheVariants as line
use Rattle.script_lang.specs.declared.line.Numbered.{Numbered}
use Rattle.script_lang.specs.Contexts.{Context, MayStand, moved, start}
use Rattle.script_lang.specs.Scripts.{IsScript, IsWithinLimits}
use Rattle.script_lang.specs.Spelling.{IsLine, spelling}

-- a line as a text: its spelling and a newline
abbrev pub row : Line → List ℕ
row line = spelling line ++ codes "\n"

-- lines as a text
abbrev pub printed : List Line → List ℕ
printed lines = flat_map row lines

-- lines with the numbers that they have in a text, the first of them this one
abbrev pub numbered : ℕ → List Line → List Numbered
numbered number [] = []
numbered number (line ∷ lines) =
    record { number = number; line = line } ∷ numbered (number + 1) lines

-- each of these lines may stand behind those before it, the first of them in this context
abbrev pub MayFollow : Context → List Line → Type 0
MayFollow ctx [] = Unit {0}
MayFollow ctx (line ∷ lines) =
    MayStand ctx (map spelling lines) line × MayFollow (moved ctx line) lines

-- lines that can be spelled and may stand so are read back
abbrev pub ScriptIsReadBack : List Line → Type 0
ScriptIsReadBack lines =
    AllByRecursion IsLine lines → MayFollow start lines → IsWithinLimits (printed lines)
    → IsScript (printed lines) (numbered 1 lines)

-- a line that neither begins nor ends a block
abbrev pub IsNoBreak : Line → Type 0
IsNoBreak line.Par = ⊥
IsNoBreak line.End = ⊥
IsNoBreak other = Unit {0}

-- a line that can be spelled, printed alone, reads as that line
abbrev pub LineIsReadBack : Line → Type 0
LineIsReadBack line =
    IsLine line → IsNoBreak line → IsScript (spelling line) (numbered 1 (line ∷ []))

-- an empty block
abbrev pub block_text : List ℕ
block_text = spelling line.Par ++ (codes "\n" ++ spelling line.End)

-- it reads as its two lines
abbrev pub BlockIsReadBack : Type 0
BlockIsReadBack = IsScript block_text (numbered 1 (line.Par ∷ line.End ∷ []))
