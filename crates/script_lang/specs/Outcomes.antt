-- What the reader's steps promise each other.
use Rattle.std.specs.Prelude.{◌≡◌, ℕ, ◌+◌, List, [], ◌∷◌, ◌++◌, Result, Ok, Err, if◌then◌else◌}
use Rattle.obj_model.specs.declared.sub_op.SubOp.{SubOp}
use Rattle.script_lang.specs.declared.cause.Cause.{Cause}
use Rattle.script_lang.specs.declared.cause.LineFault.{LineFault}
use Rattle.script_lang.specs.declared.cause.LineFault.TheVariants as fault
use Rattle.script_lang.specs.declared.cause.ScriptFault.{ScriptFault}
use Rattle.script_lang.specs.declared.cause.ScriptFault.TheVariants.{Bad, NoMemory}
use Rattle.script_lang.specs.declared.line.Line.{Line}
use Rattle.script_lang.specs.declared.line.Numbered.{Numbered}
use Rattle.script_lang.specs.Contexts.{Context, moved}
use Rattle.script_lang.specs.Reading.{TakenOp, line_of}
use Rattle.script_lang.specs.Scripts.{is_passed}

-- a result is the parse of the words; want of memory is free
abbrev pub IsParse : {A : Type 0} → Result A LineFault → Result A Cause → Type 0
IsParse (Ok value) said = said ≡ Ok value
IsParse (Err (fault.Wrong why)) said = said ≡ Err why
IsParse (Err fault.NoMemory) said = Unit {0}

-- a fault has this cause; want of memory is free
abbrev pub Blames : LineFault → Cause → Type 0
Blames (fault.Wrong why) wanted = why ≡ wanted
Blames fault.NoMemory wanted = Unit {0}

-- a reader takes a sub-operation, and leaves the words behind it; want of memory is free
abbrev pub Takes : Result SubOp LineFault → Result TakenOp Cause → List (List ℕ) → Type 0
Takes (Ok o) said rest = said ≡ Ok (o, rest)
Takes (Err (fault.Wrong why)) said rest = said ≡ Err why
Takes (Err fault.NoMemory) said rest = Unit {0}

-- what lines say, or the number of the first wrong one with its cause
abbrev pub Outcome : Type 0
Outcome = Result (List Numbered) (ℕ × Cause)

-- a fault is the first wrong line of these; want of memory is free
abbrev pub Shows : ScriptFault → Outcome → Type 0
Shows (Bad line why) said = said ≡ Err (line, why)
Shows NoMemory said = Unit {0}

-- commands in front of what the lines behind them say
abbrev pub behind : List Numbered → Outcome → Outcome
behind said (Ok more) = Ok (said ++ more)
behind said (Err wrong) = Err wrong

-- a line that says this, in front of what the lines behind it say
abbrev pub told : ℕ → Result Line Cause → (Line → Outcome) → Outcome
told number (Err why) others = Err (number, why)
told number (Ok line) others = behind (record { number = number; line = line } ∷ []) (others line)

-- what lines say, the first of them of this number and in this context
unfoldable pub outcome : Context → ℕ → List (List ℕ) → Outcome
outcome ctx number [] = Ok []
outcome ctx number (text ∷ texts) =
    if is_passed text then outcome ctx (number + 1) texts
    else told number (line_of ctx texts text) (λ line. outcome (moved ctx line) (number + 1) texts)

-- the first line, of this number, was read: the commands before it and it are these, and this is
-- the context behind it
abbrev pub Advances : List Numbered → List Numbered → Context → Context → ℕ → List ℕ → List (List ℕ)
    → Type 0
Advances before now ctx next number text texts =
    behind before (outcome ctx number (text ∷ texts)) ≡ behind now (outcome next (number + 1) texts)

-- the first line, of this number, was not read, behind these commands
abbrev pub Halts : ScriptFault → List Numbered → Context → ℕ → List ℕ → List (List ℕ) → Type 0
Halts fault before ctx number text texts =
    Shows fault (behind before (outcome ctx number (text ∷ texts)))
