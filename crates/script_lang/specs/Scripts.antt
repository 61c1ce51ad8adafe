-- What a script is, and the fault of a text that is none.
use Rattle.std.specs.Prelude.{◌≡◌, ◌≤◌, ℕ, zero, suc, ◌+◌, Bool, true, false, List, [], ◌∷◌, length, drop, Err, if◌then◌else◌, ◌==◌, nat_lt, MatchBool}
use Rattle.script_lang.specs.declared.line.Numbered.{Numbered}
use Rattle.script_lang.specs.declared.cause.Cause.{Cause}
use Rattle.script_lang.specs.declared.cause.Cause.TheVariants.{Long, Lines}
use Rattle.script_lang.specs.declared.cause.ScriptFault.{ScriptFault}
use Rattle.script_lang.specs.declared.cause.ScriptFault.TheVariants.{Bad, NoMemory}
use Rattle.script_lang.specs.Spelling.{Parses}
use Rattle.script_lang.specs.Contexts.{Context, MayStand, moved, start}
use Rattle.script_lang.specs.Reading.{line_of}

-- a byte in front of the first of these lines
abbrev pub in_front : ℕ → List (List ℕ) → List (List ℕ)
in_front b [] = (b ∷ []) ∷ []
in_front b (line ∷ lines) = (b ∷ line) ∷ lines

-- the lines of a text: what stands before each newline, and what stands behind the last one if that
-- is not empty
abbrev pub lines_of : List ℕ → List (List ℕ)
lines_of [] = []
lines_of (b ∷ bytes) = if b == 0x0a then [] ∷ lines_of bytes else in_front b (lines_of bytes)

-- a line that is passed over: a blank one, without a byte, or a comment, whose first byte is `#`
abbrev pub is_passed : List ℕ → Bool
is_passed [] = true
is_passed (b ∷ text) = b == 0x23

-- The first of these is the line of this number: the text says it, and it may stand in this context
-- before these lines. The others satisfy the rest, in the context behind it.
abbrev pub SaysFirst : Context → ℕ → List ℕ → List (List ℕ) → (Context → List Numbered → Type 0)
    → List Numbered → Type 0
SaysFirst ctx number text texts Rest [] = ⊥
SaysFirst ctx number text texts Rest (first ∷ others) =
    (first.number ≡ number) × Parses text first.line × MayStand ctx texts first.line
    × Rest (moved ctx first.line) others

-- so many lines, the first of them of this number and in this context, say these, and this is the
-- context behind them
abbrev pub Reads : Context → ℕ → (count : ℕ) → List (List ℕ) → List Numbered → Context → Type 0
Reads ctx number zero texts said behind = (said ≡ []) × (behind ≡ ctx)
Reads ctx number (suc count) [] said behind = ⊥
Reads ctx number (suc count) (text ∷ texts) said behind =
    MatchBool (is_passed text)
    (Reads ctx (number + 1) count texts said behind)
    (SaysFirst ctx number text texts (λ c others. Reads c (number + 1) count texts others behind)
    said)

-- the lines before this number are right, and the line of this number is wrong, for this cause
pub record IsFirstWrong (texts : List (List ℕ)) (number : ℕ) (cause : Cause) : Type 0 where
  pub before : ℕ
  pub counted : number ≡ before + 1
  pub said : List Numbered
  pub ctx : Context
  pub right : Reads start 1 before texts said ctx
  pub text : List ℕ
  pub behind : List (List ℕ)
  pub there : drop before texts ≡ text ∷ behind
  pub not_passed : is_passed text ≡ false
  pub wrong : line_of ctx behind text ≡ Err cause

-- a text within both limits
pub record IsWithinLimits (bytes : List ℕ) : Type 0 where
  pub short : length bytes ≤ 268435456
  pub few : length (lines_of bytes) ≤ 1000000

-- a text is a script that says these lines
pub record IsScript (bytes : List ℕ) (said : List Numbered) : Type 0 where
  pub limits : IsWithinLimits bytes
  pub ctx : Context
  pub reads : Reads start 1 (length (lines_of bytes)) (lines_of bytes) said ctx

-- told with line 0, for the text as a whole
abbrev pub IsWhole : ℕ → Cause → Cause → Type 0
IsWhole line cause wanted = (line ≡ 0) × (cause ≡ wanted)

-- the fault of a text: its length, its number of lines, or its first wrong line, in this order
abbrev pub IsFault : List ℕ → ℕ → Cause → Type 0
IsFault bytes line cause =
    MatchBool (nat_lt 268435456 (length bytes)) (IsWhole line cause Long) (
    MatchBool (nat_lt 1000000 (length (lines_of bytes))) (IsWhole line cause Lines) (
    IsFirstWrong (lines_of bytes) line cause
    ))

-- what the reader answers has its cause; want of memory is free
abbrev pub Explains : List ℕ → ScriptFault → Type 0
Explains bytes (Bad line cause) = IsFault bytes line cause
Explains bytes NoMemory = Unit {0}
