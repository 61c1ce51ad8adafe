-- A word reads as bytes exactly where it is their pairs of lower-case digits, or the dash for none.
use Rattle.std.proofs.Common.{◌≡◌, ℕ, zero, suc, ◌+◌, ◌*◌, ◌/◌, ◌%◌, ◌<◌, ◌≤◌, ◌==◌, ◌&&◌, inl, inr, nat_le, Bool, true, false, List, [], ◌∷◌, length, slice_index, Option, Some, None, if◌then◌else◌, Result, Ok, Err, refl, sym, ap, ◌∙◌, arith, bytes_eq, codes}
use Rattle.std.specs.List.{list_all}
use Rattle.std.specs.Result.{result_ok, result_unwrap_or}
use Rattle.std.specs.Cmp.Lexicographic.{bytes_decides}
use Rattle.std.proofs.lemmas.Bool.{and_parts, cases_lt, cases_Bool}
use Rattle.std.proofs.lemmas.Bool.Decides.{nat_tests}
use Rattle.hex.specs.Hex.{IsBytes, decode_of, decode_pairs, encode_lower, encode_with, hex_digit_value, lower_digits, pair_value, value_at, digit_or_error, ◌>>=◌}
use Rattle.hex.specs.declared.error.FromHexError.{FromHexError}
use Rattle.hex.proofs.HexLemmas.{IsDigits-lower_digits, decode_of-encode_lower, decode_of-ok, decode_of-even}
use Rattle.script_lang.specs.Spelling.{bytes_word}
use Rattle.script_lang.specs.Reading.{bytes_of, is_lower_digit}
use Rattle.script_lang.proofs.Joined.{IsWord, IsWord-from_test, literal_is_word, no_semicolon}

-- ---- the digits

-- the first n digits of the table are lower-case digits
abbrev all_lower : ℕ → Bool
all_lower zero = true
all_lower (suc n) = is_lower_digit (slice_index lower_digits n) && all_lower n

all_lower-at : (n k : ℕ) → all_lower n ≡ true → k < n
    → is_lower_digit (slice_index lower_digits k) ≡ true
all_lower-at zero k h lt = absurd (omega arith)
all_lower-at (suc n) k h lt =
    let parts = and_parts (is_lower_digit (slice_index lower_digits n)) (all_lower n) h in
    elim (cases_lt k n) [
      | inl below ↦ all_lower-at n k parts.1 below
      | inr top ↦
          let e : k ≡ n = omega arith in
          rw e parts.0
    ]

digit_is_lower : (d : ℕ) → d < 16 → is_lower_digit (slice_index lower_digits d) ≡ true
digit_is_lower d h = all_lower-at 16 d refl h

value_small : (c v : ℕ) → hex_digit_value c ≡ Some v → v < 16
value_small c v h = grind (arith)

-- two lower-case digits of one value are one digit
lower_digit_same : (c e v : ℕ) → is_lower_digit c ≡ true → is_lower_digit e ≡ true
    → hex_digit_value c ≡ Some v → hex_digit_value e ≡ Some v → c ≡ e
lower_digit_same c e v hc he vc ve = grind (arith, nat_tests)

-- a lower-case digit is the digit of its value
digit_of_value : (c v : ℕ) → is_lower_digit c ≡ true → hex_digit_value c ≡ Some v
    → slice_index lower_digits v ≡ c
digit_of_value c v lower value =
    let small = value_small c v value in
    lower_digit_same (slice_index lower_digits v) c v (digit_is_lower v small) lower
    (IsDigits-lower_digits v small) value

-- ---- decoding, then encoding

-- what a step shows of the one before
bind_ok : {A B : Type 0} (r : Result A FromHexError) (f : A → Result B FromHexError) (y : B)
    → (r >>= f) ≡ Ok y → (x : A) × (r ≡ Ok x) × (f x ≡ Ok y)
bind_ok (Ok x) f y h = (x, refl, h)
bind_ok (Err e) f y h = cc h

digit_read : (c i : ℕ) (o : Option ℕ) (v : ℕ) → digit_or_error c i o ≡ Ok v → o ≡ Some v
digit_read c i (Some w) v h = ap Some (ap (λ (r : Result ℕ FromHexError). result_unwrap_or r 0) h)
digit_read c i None v h = cc h

-- a byte of two digits has them again
high_of : (h l : ℕ) → l < 16 → (h * 16 + l) / 16 ≡ h
high_of h l s = omega arith

low_of : (h l : ℕ) → l < 16 → (h * 16 + l) % 16 ≡ l
low_of h l s = omega arith

encode-decoded : (i : ℕ) (word bytes : List ℕ) → decode_pairs i word ≡ Ok bytes
    → list_all is_lower_digit word ≡ true
    → encode_lower bytes ≡ word
unfolding decode_pairs encode_with
encode-decoded i [] bytes h low =
    let e : [] ≡ bytes = ap (λ (r : Result (List ℕ) FromHexError). result_unwrap_or r []) h in
    rw (← e) refl
encode-decoded i (a ∷ []) bytes h low = cc h
encode-decoded i (a ∷ b ∷ rest) bytes h low =
    let p0 = bind_ok (pair_value a b i) _ bytes h in
    let p1 = bind_ok (value_at a i) _ p0.0 p0.1 in
    let p2 = bind_ok (value_at b (i + 1)) _ p0.0 p1.2 in
    let p3 = bind_ok (decode_pairs (i + 2) rest) _ bytes p0.2 in
    let la = and_parts (is_lower_digit a) (is_lower_digit b && list_all is_lower_digit rest) low in
    let lb = and_parts (is_lower_digit b) (list_all is_lower_digit rest) la.1 in
    let va = digit_read a i (hex_digit_value a) p1.0 p1.1 in
    let vb = digit_read b (i + 1) (hex_digit_value b) p2.0 p2.1 in
    let small = value_small b p2.0 vb in
    let e : p0.0 ∷ p3.0 ≡ bytes =
    ap (λ (r : Result (List ℕ) FromHexError). result_unwrap_or r []) p3.2 in
    let byte : p1.0 * 16 + p2.0 ≡ p0.0 =
    ap (λ (r : Result ℕ FromHexError). result_unwrap_or r 0) p2.2 in
    let ih = encode-decoded (i + 2) rest p3.0 p3.1 lb.1 in
    let high : slice_index lower_digits (p0.0 / 16) ≡ a =
    ap (λ (n : ℕ). slice_index lower_digits (n / 16)) (sym byte)
    ∙ ap (slice_index lower_digits) (high_of p1.0 p2.0 small) ∙ digit_of_value a p1.0 la.0 va in
    let lower : slice_index lower_digits (p0.0 % 16) ≡ b =
    ap (λ (n : ℕ). slice_index lower_digits (n % 16)) (sym byte)
    ∙ ap (slice_index lower_digits) (low_of p1.0 p2.0 small) ∙ digit_of_value b p2.0 lb.0 vb in
    ap (encode_with lower_digits) (sym e) ∙ rw (high, lower, ih) refl

-- ---- words

-- text of bytes is lower-case digits
encode_is_lower : (bytes : List ℕ) → IsBytes bytes
    → list_all is_lower_digit (encode_lower bytes) ≡ true
unfolding encode_with
encode_is_lower [] h = refl
encode_is_lower (b ∷ bytes) h =
    let fits : b < 256 = h 0 in
    let high = digit_is_lower (b / 16) (omega arith) in
    let low = digit_is_lower (b % 16) (omega arith) in
    let ih = encode_is_lower bytes (λ k. h (suc k)) in
    rw (high, low, ih) refl

-- text that decodes is the word of its bytes, if it is not empty
word_of_decoded : (word bytes : List ℕ) → 1 ≤ length word → length word ≡ 2 * length bytes
    → encode_lower bytes ≡ word
    → word ≡ bytes_word bytes
word_of_decoded word [] some len e = absurd (omega arith)
word_of_decoded word (b ∷ bytes) some len e = sym e

result_ok-some : (r : Result (List ℕ) FromHexError) (bytes : List ℕ) → result_ok r ≡ Some bytes
    → r ≡ Ok bytes
result_ok-some (Ok x) bytes h = cc h
result_ok-some (Err e) bytes h = cc h

-- bytes that were read from digits
digits-sound : (word bytes : List ℕ) (some : Bool)
    → some ≡ nat_le 1 (length word) && list_all is_lower_digit word
    → (if some then result_ok (decode_of word) else None) ≡ Some bytes
    → (word ≡ bytes_word bytes) × IsBytes bytes
digits-sound word bytes false is h = cc h
digits-sound word bytes true is h =
    let decoded = result_ok-some (decode_of word) bytes h in
    let ok = decode_of-ok word bytes decoded in
    let parts = and_parts (nat_le 1 (length word)) (list_all is_lower_digit word) (sym is) in
    let some : 1 ≤ length word = grind (arith, nat_tests) in (
      word_of_decoded word bytes some ok.2
          (encode-decoded 0 word bytes (sym (decode_of-even word ok.0) ∙ decoded) parts.1),
      ok.3,
    )

no_bytes : IsBytes []
no_bytes i = omega arith

dash_or_digits : (word bytes : List ℕ) (dash : Bool) → bytes_eq word (codes "-") ≡ dash
    → (if dash then Some [] else if nat_le 1 (length word) && list_all is_lower_digit word
    then result_ok (decode_of word) else None)
    ≡ Some bytes → (word ≡ bytes_word bytes) × IsBytes bytes
dash_or_digits word bytes true is h =
    let e : [] ≡ bytes = cc h in
    let w : word ≡ codes "-" = (bytes_decides word (codes "-")).0 is in
    rw (← e) (w, no_bytes)
dash_or_digits word bytes false is h = digits-sound word bytes _ refl h

pub bytes_of-sound : (word bytes : List ℕ) → bytes_of word ≡ Some bytes
    → (word ≡ bytes_word bytes) × IsBytes bytes
unfolding bytes_of
bytes_of-sound word bytes h = dash_or_digits word bytes _ refl h

-- two digits are no dash
no_dash : (a b : ℕ) (rest : List ℕ) → bytes_eq (a ∷ b ∷ rest) (codes "-") ≡ false
no_dash a b rest =
    elim (cases_Bool (a == 0x2d)) [ inl same ↦ rw same refl | inr other ↦ rw other refl ]

pub bytes_of-word : (bytes : List ℕ) → IsBytes bytes → bytes_of (bytes_word bytes) ≡ Some bytes
unfolding bytes_of encode_with
bytes_of-word [] h = refl
bytes_of-word (b ∷ bytes) h =
    let lower = encode_is_lower (b ∷ bytes) h in
    let dash =
    no_dash (slice_index lower_digits (b / 16)) (slice_index lower_digits (b % 16))
    (encode_lower bytes) in
    let back = decode_of-encode_lower (b ∷ bytes) h in
    let some : nat_le 1 (length (encode_lower (b ∷ bytes))) ≡ true = grind (arith, nat_tests) in
    rw (dash, some, lower, back) refl

pub bytes_is_word : (bytes : List ℕ) → IsBytes bytes → IsWord (bytes_word bytes)
unfolding encode_with
bytes_is_word [] h = literal_is_word (codes "-") refl
bytes_is_word (b ∷ bytes) h =
    IsWord-from_test is_lower_digit (λ b e. grind (arith, nat_tests)) (encode_lower (b ∷ bytes))
    (omega arith)
    (encode_is_lower (b ∷ bytes) h)

pub bytes_is_field : (bytes : List ℕ) → IsBytes bytes
    → bytes_eq (bytes_word bytes) (codes ";") ≡ false
bytes_is_field [] h = refl
bytes_is_field (b ∷ bytes) h =
    no_semicolon is_lower_digit refl (encode_lower (b ∷ bytes)) (encode_is_lower (b ∷ bytes) h)
