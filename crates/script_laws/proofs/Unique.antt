-- A text has at most one reading and at most one fault, and never both.
use Rattle.std.proofs.Common.{◌≡◌, ℕ, Bool, true, false, MatchBool, List, length, nat_lt, sym, ap, ◌∙◌, arith}
use Rattle.std.proofs.lemmas.Bool.Decides.{nat_tests}
use Rattle.script_lang.specs.declared.cause.Cause.{Cause}
use Rattle.script_lang.specs.declared.cause.Cause.TheVariants.{Long, Lines}
use Rattle.script_lang.specs.Contexts.{start}
use Rattle.script_lang.specs.Scripts.{IsFirstWrong, IsWhole, lines_of}
use Rattle.script_laws.proofs.ReadTexts.{outcome-first_wrong, outcome-reads}
use Rattle.script_laws.specs.Once.{ReadingIsOne, ScriptHasNoFault, FaultIsOne}

pub reading_is_one : (bytes : List ℕ) → ReadingIsOne bytes
reading_is_one bytes one other a b =
    let first = outcome-reads start a.ctx 1 (lines_of bytes) one a.reads in
    let second = outcome-reads start b.ctx 1 (lines_of bytes) other b.reads in
    cc

no_whole : (bytes : List ℕ) (line : ℕ) (cause : Cause) (long many : Bool) → long ≡ false
    → many ≡ false
    → MatchBool long (IsWhole line cause Long)
    (MatchBool many (IsWhole line cause Lines) (IsFirstWrong (lines_of bytes) line cause))
    → IsFirstWrong (lines_of bytes) line cause
no_whole bytes line cause false false a b f = f
no_whole bytes line cause false true a b f = cc b
no_whole bytes line cause true many a b f = cc a

pub script_has_no_fault : (bytes : List ℕ) → ScriptHasNoFault bytes
script_has_no_fault bytes said line cause s f =
    let short = s.limits.short in
    let few = s.limits.few in
    let long : nat_lt 268435456 (length bytes) ≡ false = grind (arith, nat_tests) in
    let many : nat_lt 1000000 (length (lines_of bytes)) ≡ false = grind (arith, nat_tests) in
    let wrong : IsFirstWrong (lines_of bytes) line cause =
    no_whole bytes line cause _ _ long many f in
    let read = outcome-reads start s.ctx 1 (lines_of bytes) said s.reads in
    let not_read = outcome-first_wrong (lines_of bytes) line cause wrong in
    cc

one_by_tests : (bytes : List ℕ) (line other : ℕ) (cause other_cause : Cause) (long many : Bool)
    → MatchBool long (IsWhole line cause Long)
    (MatchBool many (IsWhole line cause Lines) (IsFirstWrong (lines_of bytes) line cause))
    → MatchBool long (IsWhole other other_cause Long)
    (MatchBool many (IsWhole other other_cause Lines)
    (IsFirstWrong (lines_of bytes) other other_cause))
    → (line ≡ other) × (cause ≡ other_cause)
one_by_tests bytes line other cause other_cause true many f g = (f.0 ∙ sym g.0, f.1 ∙ sym g.1)
one_by_tests bytes line other cause other_cause false true f g = (f.0 ∙ sym g.0, f.1 ∙ sym g.1)
one_by_tests bytes line other cause other_cause false false f g =
    let first = outcome-first_wrong (lines_of bytes) line cause f in
    let second = outcome-first_wrong (lines_of bytes) other other_cause g in
    let same : (line, cause) ≡ (other, other_cause) = cc in
    (ap (λ (p : ℕ × Cause). p.0) same, ap (λ (p : ℕ × Cause). p.1) same)

pub fault_is_one : (bytes : List ℕ) → FaultIsOne bytes
fault_is_one bytes line other cause other_cause f g =
    one_by_tests bytes line other cause other_cause (nat_lt 268435456 (length bytes))
    (nat_lt 1000000 (length (lines_of bytes))) f g
