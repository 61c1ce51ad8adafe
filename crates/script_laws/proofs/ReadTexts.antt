-- What texts say is the outcome of reading them, and so is their fault.
use Rattle.std.proofs.Common.{◌≡◌, ℕ, zero, suc, ◌+◌, Bool, true, false, MatchBool, List, [], ◌∷◌, length, drop, Ok, Err, if◌then◌else◌, refl, ap, ◌∙◌, arith}
use Rattle.script_lang.specs.declared.cause.Cause.{Cause}
use Rattle.script_lang.specs.declared.line.Numbered.{Numbered}
use Rattle.script_lang.specs.Contexts.{Context, moved, start}
use Rattle.script_lang.specs.Scripts.{IsFirstWrong, Reads, SaysFirst, is_passed}
use Rattle.script_lang.specs.Outcomes.{outcome, told}
use Rattle.script_lang.specs.Reading.{line_of}
use Rattle.script_laws.proofs.ReadLines.{line_of-says}

read_by_test : (ctx last : Context) (number : ℕ) (text : List ℕ) (texts : List (List ℕ))
    → ((c : Context) (said : List Numbered) → Reads c (number + 1) (length texts) texts said last
    → outcome c (number + 1) texts ≡ Ok said)
    → (passed : Bool) (said : List Numbered)
    → MatchBool passed (Reads ctx (number + 1) (length texts) texts said last)
    (SaysFirst ctx number text texts
    (λ c others. Reads c (number + 1) (length texts) texts others last) said)
    → (if passed then outcome ctx (number + 1) texts
    else told number (line_of ctx texts text) (λ line. outcome (moved ctx line) (number + 1) texts))
    ≡ Ok said
read_by_test ctx last number text texts ih true said h = ih ctx said h
read_by_test ctx last number text texts ih false [] h = absurd h
read_by_test ctx last number text texts ih false (first ∷ others) h =
    let line = line_of-says ctx texts text first.line h.1 h.2 in
    let more = ih (moved ctx first.line) others h.3 in
    rw (line, more, ← h.0) refl

pub outcome-reads : (ctx last : Context) (number : ℕ) (texts : List (List ℕ)) (said : List Numbered)
    → Reads ctx number (length texts) texts said last → outcome ctx number texts ≡ Ok said
unfolding outcome
outcome-reads ctx last number [] said h = rw h.0 refl
outcome-reads ctx last number (text ∷ texts) said h =
    read_by_test ctx last number text texts
    (λ c said h. outcome-reads c last (number + 1) texts said h) (is_passed text) said h

-- a wrong line behind right ones is the outcome
wrong_outcome_by_test : (ctx last : Context) (number : ℕ) (text : List ℕ) (texts : List (List ℕ))
    (before : ℕ) (cause : Cause)
    → ((c : Context) (said : List Numbered) → Reads c (number + 1) before texts said last
    → outcome c (number + 1) texts ≡ Err (number + 1 + before, cause))
    → (passed : Bool) (said : List Numbered)
    → MatchBool passed (Reads ctx (number + 1) before texts said last)
    (SaysFirst ctx number text texts (λ c others. Reads c (number + 1) before texts others last)
    said)
    → (if passed then outcome ctx (number + 1) texts
    else told number (line_of ctx texts text) (λ line. outcome (moved ctx line) (number + 1) texts))
    ≡ Err (number + 1 + before, cause)
wrong_outcome_by_test ctx last number text texts before cause ih true said h = ih ctx said h
wrong_outcome_by_test ctx last number text texts before cause ih false [] h = absurd h
wrong_outcome_by_test ctx last number text texts before cause ih false (first ∷ others) h =
    let line = line_of-says ctx texts text first.line h.1 h.2 in
    let more = ih (moved ctx first.line) others h.3 in
    rw (line, more) refl

from_wrong : (ctx last : Context) (number : ℕ) (texts : List (List ℕ)) (before : ℕ)
    (said : List Numbered) (text : List ℕ)
    (rest : List (List ℕ)) (cause : Cause) → Reads ctx number before texts said last
    → drop before texts ≡ text ∷ rest
    → is_passed text ≡ false → line_of last rest text ≡ Err cause
    → outcome ctx number texts ≡ Err (number + before, cause)
unfolding outcome
from_wrong ctx last number [] zero said text rest cause h t p w = cc t
from_wrong ctx last number [] (suc before) said text rest cause h t p w = absurd h
from_wrong ctx last number (first ∷ texts) zero said text rest cause h t p w =
    let e : first ≡ text = cc t in
    let r : texts ≡ rest = cc t in
    let passed : is_passed first ≡ false = rw e p in
    let wrong : line_of ctx texts first ≡ Err cause = rw (e, r, ← h.1) w in
    let same : number ≡ number + 0 = omega arith in
    rw (passed, wrong) (ap (λ (n : ℕ). Err (n, cause)) same)
from_wrong ctx last number (first ∷ texts) (suc before) said text rest cause h t p w =
    let same : number + 1 + before ≡ number + suc before = omega arith in
    wrong_outcome_by_test ctx last number first texts before cause
    (λ c said h. from_wrong c last (number + 1) texts before said text rest cause h t p w)
    (is_passed first) said h
    ∙ ap (λ (n : ℕ). Err (n, cause)) same

pub outcome-first_wrong : (texts : List (List ℕ)) (wrong : ℕ) (cause : Cause)
    → IsFirstWrong texts wrong cause
    → outcome start 1 texts ≡ Err (wrong, cause)
outcome-first_wrong texts wrong cause w =
    let counted = w.counted in
    let same : 1 + w.before ≡ wrong = omega arith in
    from_wrong start w.ctx 1 texts w.before w.said w.text w.behind cause w.right w.there
    w.not_passed w.wrong
    ∙ ap (λ (n : ℕ). Err (n, cause)) same
