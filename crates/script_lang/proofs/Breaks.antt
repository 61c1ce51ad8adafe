-- A text is cut at its first byte of a kind: the words and the lines of a text, taken off one after
-- another.
use Rattle.std.proofs.Common.{◌≡◌, ℕ, ◌+◌, ◌-◌, ◌<◌, ◌≤◌, ◌==◌, Bool, true, false, List, [], ◌∷◌, ◌++◌, length, get_or, take, drop, Some, None, refl, ap, ◌∙◌, subst, inl, inr, arith, ltb}
use Rattle.std.specs.List.{All, position, position_or_len}
use Rattle.std.proofs.lemmas.List.Splits.{slice_split_at, slice_split_none}
use Rattle.std.proofs.lemmas.List.Sums.{split_at_first, fails_before_first, passes_at_first}
use Rattle.std.proofs.lemmas.List.Elements.{All-from_get_or, All-head, All-tail}
use Rattle.std.proofs.lemmas.List.{get_or-take, length-take, length-drop, take_all}
use Rattle.std.proofs.lemmas.Option.{cond_some}
use Rattle.std.proofs.lemmas.Bool.{cases_Bool}
use Rattle.std.proofs.lemmas.Bool.Decides.{nat_tests}
use borrow.Author.Tests.{ltb-true}
use Rattle.script_lang.specs.Reading.{words_of}
use Rattle.script_lang.specs.Scripts.{lines_of, in_front}

-- the first place that passes: what stands before it, at it and behind it
pub record IsBreak (p : ℕ → Bool) (xs : List ℕ) (at : ℕ) : Type 0 where
  pub inside : at < length xs
  pub whole : xs ≡ take at xs ++ get_or xs at 0 ∷ drop (at + 1) xs
  pub free : All (λ x. p x ≡ false) (take at xs)
  pub passes : p (get_or xs at 0) ≡ true

-- the first place below the length is a break
first_is_break : (p : ℕ → Bool) (xs : List ℕ) → position_or_len p xs < length xs
    → IsBreak p xs (position_or_len p xs)
first_is_break p xs h =
    record {
      inside = h;
      whole = split_at_first p xs 0 h;
      free =
          All-from_get_or (λ x. p x ≡ false) (take (position_or_len p xs) xs) 0
          (λ i lt.
          let below : i < position_or_len p xs = omega (arith, length-take {A = ℕ}) in
          ap p (get_or-take (position_or_len p xs) xs i 0 below)
          ∙ fails_before_first p xs i 0 below);
      passes = passes_at_first p xs 0 h;
    }

pub IsBreak-from_position : (p : ℕ → Bool) (xs : List ℕ) (at : ℕ) → position p xs ≡ Some at
    → IsBreak p xs at
IsBreak-from_position p xs at h =
    let parts = cond_some (ltb (position_or_len p xs) (length xs)) (position_or_len p xs) at h in
    let inside : position_or_len p xs < length xs = ltb-true _ _ parts.0 in
    let P : ℕ → Type 0 = IsBreak p xs in subst P parts.1 (first_is_break p xs inside)

-- no element passes
pub free_from_position : (p : ℕ → Bool) (xs : List ℕ) → position p xs ≡ None
    → All (λ x. p x ≡ false) xs
free_from_position p xs h =
    let end : length xs ≤ position_or_len p xs = grind (arith, nat_tests) in
    All-from_get_or (λ x. p x ≡ false) xs 0 (λ i lt. fails_before_first p xs i 0 (omega arith))

-- a slice from a place to the end
pub rest_of_slice : (xs : List ℕ) (n : ℕ) → take (length xs - n) (drop n xs) ≡ drop n xs
rest_of_slice xs n = take_all (length xs - n) (drop n xs) (omega (arith, length-drop {A = ℕ}))

-- the words of a line: its first word, and the words behind the space
pub words_at_space : (text : List ℕ) (at : ℕ) → position (λ b. b == 0x20) text ≡ Some at
    → words_of text ≡ take at text ∷ words_of (drop (at + 1) text)
words_at_space text at h =
    let b = IsBreak-from_position _ text at h in
    ap words_of b.whole
    ∙ slice_split_at (λ b. b == 0x20) (take at text) _ (drop (at + 1) text) b.free b.passes

pub words_without_space : (text : List ℕ) → position (λ b. b == 0x20) text ≡ None
    → words_of text ≡ text ∷ []
words_without_space text h = slice_split_none (λ b. b == 0x20) text (free_from_position _ text h)

-- the lines of a text: its first line, and the lines behind the newline
pub lines_by_parts : (line rest : List ℕ) (b : ℕ) → All (λ x. (x == 0x0a) ≡ false) line
    → (b == 0x0a) ≡ true
    → lines_of (line ++ b ∷ rest) ≡ line ∷ lines_of rest
lines_by_parts [] rest b free is = rw is refl
lines_by_parts (x ∷ line) rest b free is =
    let first : (x == 0x0a) ≡ false = All-head (λ (x : ℕ). (x == 0x0a) ≡ false) x line free in
    let more =
    lines_by_parts line rest b (All-tail (λ (x : ℕ). (x == 0x0a) ≡ false) x line free) is in
    rw (first, more) refl

-- a text without a newline is one line, if it has a byte
pub line_alone : (b : ℕ) (line : List ℕ) → All (λ x. (x == 0x0a) ≡ false) (b ∷ line)
    → lines_of (b ∷ line) ≡ (b ∷ line) ∷ []
line_alone b [] free =
    let first : (b == 0x0a) ≡ false = All-head (λ (x : ℕ). (x == 0x0a) ≡ false) b [] free in
    rw first refl
line_alone b (x ∷ line) free =
    let first : (b == 0x0a) ≡ false = All-head (λ (x : ℕ). (x == 0x0a) ≡ false) b (x ∷ line) free in
    let more = line_alone x line (All-tail (λ (x : ℕ). (x == 0x0a) ≡ false) b (x ∷ line) free) in
    rw (first, more) refl

pub lines_at_newline : (text : List ℕ) (at : ℕ) → position (λ b. b == 0x0a) text ≡ Some at
    → lines_of text ≡ take at text ∷ lines_of (drop (at + 1) text)
lines_at_newline text at h =
    let b = IsBreak-from_position (λ b. b == 0x0a) text at h in
    ap lines_of b.whole ∙ lines_by_parts (take at text) (drop (at + 1) text) _ b.free b.passes

pub lines_without_newline : (text : List ℕ) → 0 < length text
    → position (λ b. b == 0x0a) text ≡ None
    → lines_of text ≡ text ∷ []
lines_without_newline [] some h = absurd (omega arith)
lines_without_newline (b ∷ text) some h =
    line_alone b text (free_from_position (λ b. b == 0x0a) (b ∷ text) h)

in_front_some : (b : ℕ) (lines : List (List ℕ)) → 0 < length (in_front b lines)
in_front_some b [] = omega arith
in_front_some b (line ∷ lines) = omega arith

-- a text with a byte has a line
pub lines_some : (text : List ℕ) → 0 < length text → 0 < length (lines_of text)
lines_some [] h = absurd (omega arith)
lines_some (b ∷ text) h =
    elim (cases_Bool (b == 0x0a)) [
      | inl newline ↦ rw newline (omega arith)
      | inr other ↦ rw other (in_front_some b (lines_of text))
    ]
