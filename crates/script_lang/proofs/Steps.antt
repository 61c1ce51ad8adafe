-- One line after another: what reading a line does to the outcome.
use Rattle.std.proofs.Common.{◌≡◌, ℕ, ◌+◌, ◌≤◌, true, false, List, [], ◌∷◌, ◌++◌, length, nat_lt, Ok, Err, refl, sym, ap, ◌∙◌, arith, append_assoc, append-nil}
use Rattle.std.proofs.lemmas.Bool.Decides.{nat_tests}
use Rattle.script_lang.specs.declared.cause.Cause.{Cause}
use Rattle.script_lang.specs.declared.cause.ScriptFault.{ScriptFault}
use Rattle.script_lang.specs.declared.cause.ScriptFault.TheVariants.{Bad, NoMemory}
use Rattle.script_lang.specs.declared.line.Line.{Line}
use Rattle.script_lang.specs.declared.line.Numbered.{Numbered}
use Rattle.script_lang.specs.Contexts.{Context, moved, start}
use Rattle.script_lang.specs.Outcomes.{Advances, Halts, Outcome, Shows, behind, outcome}
use Rattle.script_lang.specs.Reading.{line_of}
use Rattle.script_lang.specs.Scripts.{Explains, IsScript, is_passed, lines_of}
use Rattle.script_lang.proofs.Texts.{IsFirstWrong-from_outcome, outcome-sound}

-- ---- one line

pub advances_passed : (before : List Numbered) (ctx : Context) (number : ℕ) (text : List ℕ)
    (texts : List (List ℕ))
    → is_passed text ≡ true → Advances before before ctx ctx number text texts
unfolding outcome
advances_passed before ctx number text texts passed = rw passed refl

behind_both : (before : List Numbered) (first : Numbered) (others : Outcome)
    → behind before (behind (first ∷ []) others) ≡ behind (before ++ first ∷ []) others
behind_both before first (Ok more) = ap Ok (sym (append_assoc before (first ∷ []) more))
behind_both before first (Err wrong) = refl

pub advances_line : (before now : List Numbered) (ctx next : Context) (number : ℕ) (text : List ℕ)
    (texts : List (List ℕ)) (line : Line)
    → is_passed text ≡ false → line_of ctx texts text ≡ Ok line
    → now ≡ before ++ record { number = number; line = line } ∷ []
    → next ≡ moved ctx line → Advances before now ctx next number text texts
unfolding outcome
advances_line before now ctx next number text texts line passed says is goes =
    rw (
      passed,
      says,
      is,
      goes,
    ) (behind_both before (record {
      number = number;
      line = line;
    }) (outcome (moved ctx line) (number + 1) texts))

pub halts_wrong : (before : List Numbered) (ctx : Context) (number : ℕ) (text : List ℕ)
    (texts : List (List ℕ)) (why : Cause)
    → is_passed text ≡ false → line_of ctx texts text ≡ Err why
    → Halts (Bad number why) before ctx number text texts
unfolding outcome
halts_wrong before ctx number text texts why passed wrong = rw (passed, wrong) refl

-- ---- the loop

-- the commands so far, and what is left, say what the text says; there are lines enough for the
-- numbers
pub record Gone (said : List Numbered) (ctx : Context) (number : ℕ) (rest text : List ℕ) : Type 0
  where
    pub same : behind said (outcome ctx (number + 1) (lines_of rest))
        ≡ outcome start 1 (lines_of text)
    pub counted : number + length (lines_of rest) ≤ 1000000

no_bytes : (rest : List ℕ) → length rest ≡ 0 → rest ≡ []
no_bytes [] h = refl
no_bytes (b ∷ rest) h = absurd (omega arith)

pub gone_all : (said : List Numbered) (ctx : Context) (number : ℕ) (rest text : List ℕ)
    → Gone said ctx number rest text
    → length rest ≡ 0 → outcome start 1 (lines_of text) ≡ Ok said
unfolding outcome
gone_all said ctx number rest text g h =
    let end : lines_of rest ≡ [] = ap lines_of (no_bytes rest h) in
    let last : behind said (outcome ctx (number + 1) (lines_of rest)) ≡ Ok said =
    rw end (ap Ok (append-nil said)) in
    sym g.same ∙ last

-- ---- the whole text

pub script_from_outcome : (bytes : List ℕ) (said : List Numbered) → length bytes ≤ 268435456
    → length (lines_of bytes) ≤ 1000000
    → outcome start 1 (lines_of bytes) ≡ Ok said → IsScript bytes said
script_from_outcome bytes said short few h =
    let r = outcome-sound start 1 (lines_of bytes) said h in
    record { limits = record { short = short; few = few }; ctx = r.last; reads = r.reads }

pub explains_shown : (bytes : List ℕ) (fault : ScriptFault) → length bytes ≤ 268435456
    → length (lines_of bytes) ≤ 1000000
    → Shows fault (outcome start 1 (lines_of bytes)) → Explains bytes fault
explains_shown bytes (Bad line why) short few h =
    let long : nat_lt 268435456 (length bytes) ≡ false = grind (arith, nat_tests) in
    let many : nat_lt 1000000 (length (lines_of bytes)) ≡ false = grind (arith, nat_tests) in
    rw (long, many) (IsFirstWrong-from_outcome (lines_of bytes) line why h)
explains_shown bytes NoMemory short few h = tt
