-- What is printed is read back.
use Rattle.std.proofs.Common.{◌≡◌, ℕ, ◌+◌, ◌==◌, false, List, [], ◌∷◌, append_assoc, length, map, refl, ap, ◌∙◌, arith, codes}
use Rattle.std.specs.List.{All, AllByRecursion, list_any}
use Rattle.std.proofs.lemmas.Bool.Decides.{nat_tests}
use Rattle.std.proofs.lemmas.List.Elements.{All-cons, All-nil}
use Rattle.script_lang.specs.declared.line.Line.{Line}
use Rattle.script_lang.specs.declared.line.Line.TheVariants as line
use Rattle.script_lang.specs.Contexts.{Context, MayStand, moved, start}
use Rattle.script_lang.specs.Reading.{is_odd_byte}
use Rattle.script_lang.specs.Scripts.{Reads, is_passed, lines_of}
use Rattle.script_lang.specs.Spelling.{IsLine, line_words, spelling}
use Rattle.script_lang.proofs.Breaks.{line_alone, lines_by_parts}
use Rattle.script_lang.proofs.Joined.{joined_is_even, or_parts}
use Rattle.script_laws.proofs.ReadLines.{line_is_words}
use Rattle.script_laws.specs.Printed.{BlockIsReadBack, IsNoBreak, LineIsReadBack, MayFollow, ScriptIsReadBack, numbered, printed}
use Rattle.script_laws.proofs.Widths.{spelling_width}

-- ---- a spelling is one line

no_newline : (text : List ℕ) → list_any is_odd_byte text ≡ false
    → All (λ b. (b == 0x0a) ≡ false) text
no_newline [] h = All-nil (λ (b : ℕ). (b == 0x0a) ≡ false)
no_newline (b ∷ text) h =
    let parts = or_parts (is_odd_byte b) (list_any is_odd_byte text) h in
    let even = parts.0 in
    let other : (b == 0x0a) ≡ false = grind (arith, nat_tests) in
    All-cons (λ (b : ℕ). (b == 0x0a) ≡ false) b text other (no_newline text parts.1)

spelled_in_a_line : (said : Line) → IsLine said → All (λ b. (b == 0x0a) ≡ false) (spelling said)
spelled_in_a_line said h =
    no_newline (spelling said) (joined_is_even (line_words said) (line_is_words said h))

-- no spelling is blank or a comment
not_passed : (said : Line) → is_passed (spelling said) ≡ false
not_passed (line.Op req) = refl
not_passed (line.Get client name vector) = refl
not_passed (line.Flush name) = refl
not_passed (line.Tryflush name) = refl
not_passed (line.BeginFlush name) = refl
not_passed (line.BeginTryflush name) = refl
not_passed (line.Finish name) = refl
not_passed (line.Evict name) = refl
not_passed line.Drain = refl
not_passed line.Agent = refl
not_passed (line.SetMode mode) = refl
not_passed (line.SetTime moment) = refl
not_passed line.StopCache = refl
not_passed line.StopBase = refl
not_passed line.Par = refl
not_passed line.End = refl

-- a text without a newline is one line, if it is not passed over
one_line : (text : List ℕ) → is_passed text ≡ false → All (λ b. (b == 0x0a) ≡ false) text
    → lines_of text ≡ text ∷ []
one_line [] passed free = cc passed
one_line (b ∷ text) passed free = line_alone b text free

rows_are_lines : (lines : List Line) → AllByRecursion IsLine lines
    → lines_of (printed lines) ≡ map spelling lines
rows_are_lines [] h = refl
rows_are_lines (said ∷ lines) h =
    ap lines_of (append_assoc (spelling said) (codes "\n") (printed lines))
    ∙ lines_by_parts (spelling said) (printed lines) 0x0a (spelled_in_a_line said h.0) refl
    ∙ ap (λ (texts : List (List ℕ)). spelling said ∷ texts) (rows_are_lines lines h.1)

-- ---- several lines

-- the context behind lines
abbrev behind : Context → List Line → Context
behind ctx [] = ctx
behind ctx (said ∷ lines) = behind (moved ctx said) lines

reads_back : (ctx : Context) (number : ℕ) (lines : List Line) → AllByRecursion IsLine lines
    → MayFollow ctx lines
    → Reads ctx number (length (map spelling lines)) (map spelling lines) (numbered number lines)
    (behind ctx lines)
reads_back ctx number [] h follows = (refl, refl)
reads_back ctx number (said ∷ lines) h follows =
    rw (not_passed said) (
      refl,
      record { lawful = h.0; spelled = refl },
      follows.0,
      reads_back (moved ctx said) (number + 1) lines h.1 follows.1,
    )

pub script_is_read_back : (lines : List Line) → ScriptIsReadBack lines
script_is_read_back lines h follows limits =
    record {
      limits = limits;
      ctx = behind start lines;
      reads = rw (rows_are_lines lines h) (reads_back start 1 lines h follows);
    }

-- ---- one line

-- a line that neither begins nor ends a block may stand alone
stands_alone : (said : Line) → IsNoBreak said → MayStand start [] said
stands_alone (line.Op req) h = record { in_time = tt; in_place = refl }
stands_alone (line.Get client name vector) h = record { in_time = tt; in_place = refl }
stands_alone (line.Flush name) h = record { in_time = tt; in_place = refl }
stands_alone (line.Tryflush name) h = record { in_time = tt; in_place = refl }
stands_alone (line.BeginFlush name) h = record { in_time = tt; in_place = refl }
stands_alone (line.BeginTryflush name) h = record { in_time = tt; in_place = refl }
stands_alone (line.Finish name) h = record { in_time = tt; in_place = refl }
stands_alone (line.Evict name) h = record { in_time = tt; in_place = refl }
stands_alone line.Drain h = record { in_time = tt; in_place = refl }
stands_alone line.Agent h = record { in_time = tt; in_place = refl }
stands_alone (line.SetMode mode) h = record { in_time = tt; in_place = refl }
stands_alone (line.SetTime moment) h = record { in_time = omega arith; in_place = refl }
stands_alone line.StopCache h = record { in_time = tt; in_place = refl }
stands_alone line.StopBase h = record { in_time = tt; in_place = refl }
stands_alone line.Par h = absurd h
stands_alone line.End h = absurd h

pub line_is_read_back : (said : Line) → LineIsReadBack said
line_is_read_back said h free =
    let alone = one_line (spelling said) (not_passed said) (spelled_in_a_line said h) in
    let width = spelling_width said h in
    let one : length (lines_of (spelling said)) ≡ 1 = ap length alone in
    record {
      limits = record { short = omega arith; few = omega arith };
      ctx = moved start said;
      reads = rw alone (reads_back start 1 (said ∷ []) (h, tt) (stands_alone said free, tt));
    }

pub block_is_read_back : BlockIsReadBack
block_is_read_back =
    record {
      limits = record { short = omega arith; few = omega arith };
      ctx = start;
      reads = reads_back start 1 (line.Par ∷ line.End ∷ []) (tt, (tt, tt)) (
        record { in_time = tt; in_place = refl },
        (record { in_time = tt; in_place = refl }, tt),
      );
    }
