-- A word reads as a number exactly where it is the number's decimal digits.
use Rattle.std.proofs.Common.{◌≡◌, ℕ, ◌+◌, ◌-◌, ◌*◌, ◌^◌, min, take, ◌<◌, ◌≤◌, ◌==◌, ◌&&◌, ◌||◌, ◌⊎◌, inl, inr, nat_le, Bool, true, List, length, get_or, Some, refl, sym, ap, ◌∙◌, arith, rules, decimal, bytes_eq, codes, false}
use Rattle.std.specs.List.{list_all}
use Rattle.std.specs.Char.{is_ascii_digit, digit_value}
use Rattle.std.specs.Str.Parse.{digits_value}
use Rattle.std.proofs.lemmas.Str.Parse.{IsNumeralModel, numerals_by_value, digit_at}
use Rattle.std.proofs.lemmas.Int.Digits.{digits_value_more}
use Rattle.std.proofs.lemmas.Fmt.{decimal-digits_value, digits_decimal, digits_value-decimal, decimal_nonempty, length-decimal-le, first_decimal, decimal_digit}
use Rattle.std.proofs.lemmas.Bool.{and_parts, cases_eq}
use Rattle.std.proofs.lemmas.Bool.Decides.{nat_tests}
use Rattle.script_lang.specs.Reading.{number_of, is_numeral}
use Rattle.script_lang.proofs.Options.{where_true_some}
use Rattle.script_lang.proofs.Joined.{IsWord, IsWord-from_test, no_semicolon}

-- texts of digits, and their values
own : IsNumeralModel (λ ds. list_all is_ascii_digit ds ≡ true) (digits_value 10)
own = numerals_by_value _ (search rules)

-- what the test of a numeral shows
numeral_parts : (len first : ℕ) (digits : Bool)
    → (nat_le 1 len && nat_le len 19 && digits && (nat_le 49 first || len == 1)) ≡ true
    → (1 ≤ len) × (len ≤ 19) × (digits ≡ true) × (first ≡ 48 → len ≡ 1)
numeral_parts len first digits h =
    let a = and_parts (nat_le 1 len && nat_le len 19 && digits) (nat_le 49 first || len == 1) h in
    let b = and_parts (nat_le 1 len && nat_le len 19) digits a.0 in
    let d = and_parts (nat_le 1 len) (nat_le len 19) b.0 in
    (grind (arith, nat_tests), grind (arith, nat_tests), b.1, λ e. grind (arith, nat_tests))

-- and what it needs
numeral_from_parts : (len first : ℕ) (digits : Bool) → 1 ≤ len → len ≤ 19 → digits ≡ true
    → (48 < first) ⊎ (len ≡ 1)
    → (nat_le 1 len && nat_le len 19 && digits && (nat_le 49 first || len == 1)) ≡ true
numeral_from_parts len first digits low high all (inl lead) = rw all (grind (arith, nat_tests))
numeral_from_parts len first digits low high all (inr single) = rw all (grind (arith, nat_tests))

pub digits_of_numeral : (word : List ℕ) → is_numeral word ≡ true
    → list_all is_ascii_digit word ≡ true
digits_of_numeral word h =
    (numeral_parts (length word) (get_or word 0 0) (list_all is_ascii_digit word) h).2

-- one more digit of a text of digits
pub digits_step : (word : List ℕ) (i value : ℕ) → i < length word
    → list_all is_ascii_digit word ≡ true
    → value ≡ min (digits_value 10 (take i word)) (2 ^ 64 - 1)
    → min (min (value * 10) (2 ^ 64 - 1) + (get_or word i 0 - 48)) (2 ^ 64 - 1)
    ≡ min (digits_value 10 (take (i + 1) word)) (2 ^ 64 - 1)
digits_step word i value below digits is =
    let more = digits_value_more 10 word i below in
    let at = digit_at word i (own.to word digits) below in
    let low : 48 ≤ get_or word i 0 = at.0 in
    let high : get_or word i 0 ≤ 57 = at.1 in
    let digit : digit_value (get_or word i 0) ≡ get_or word i 0 - 48 = grind (arith, nat_tests) in
    omega arith

pub number_of-sound : (word : List ℕ) (n : ℕ) → number_of word ≡ Some n
    → (word ≡ decimal n) × (n ≤ 2 ^ 62)
unfolding number_of
number_of-sound word n h =
    let some =
    where_true_some (is_numeral word && nat_le (digits_value 10 word) (2 ^ 62))
    (digits_value 10 word) n h in
    let both = and_parts (is_numeral word) (nat_le (digits_value 10 word) (2 ^ 62)) some.0 in
    let parts =
    numeral_parts (length word) (get_or word 0 0) (list_all is_ascii_digit word) both.0 in
    let low : digits_value 10 word ≤ 2 ^ 62 = grind (arith, nat_tests) in
    let back = decimal-digits_value own word parts.2 (omega arith) parts.3 (omega arith) in
    (sym back ∙ ap decimal some.1, omega arith)

lead_or_single : (n : ℕ) → n ≤ 2 ^ 62 → (48 < get_or (decimal n) 0 0) ⊎ (length (decimal n) ≡ 1)
lead_or_single n h =
    elim (cases_eq n 0) [
      | inl none ↦ inr (ap length (ap decimal none ∙ decimal_digit 0 (omega arith)))
      | inr some ↦ inl (first_decimal n (omega arith) (omega arith))
    ]

pub number_of-decimal : (n : ℕ) → n ≤ 2 ^ 62 → number_of (decimal n) ≡ Some n
unfolding number_of
number_of-decimal n h =
    let digits = digits_decimal own n (omega arith) in
    let value : digits_value 10 (decimal n) ≡ n = digits_value-decimal own n (omega arith) in
    let numeral : is_numeral (decimal n) ≡ true =
    numeral_from_parts (length (decimal n)) (get_or (decimal n) 0 0)
    (list_all is_ascii_digit (decimal n))
    (omega (arith, decimal_nonempty n (omega arith)))
    (length-decimal-le 19 n (omega arith) (omega arith) (omega arith))
    digits (lead_or_single n h) in
    let low : nat_le n (2 ^ 62) ≡ true = grind (arith, nat_tests) in
    rw (numeral, value, low) refl

pub decimal_is_word : (n : ℕ) → n ≤ 2 ^ 62 → IsWord (decimal n)
decimal_is_word n h =
    IsWord-from_test is_ascii_digit (λ b e. grind (arith, nat_tests)) (decimal n) (omega (
      arith,
      decimal_nonempty n (omega arith),
    ))
    (digits_decimal own n (omega arith))

pub decimal_is_field : (n : ℕ) → n ≤ 2 ^ 62 → bytes_eq (decimal n) (codes ";") ≡ false
decimal_is_field n h =
    no_semicolon is_ascii_digit refl (decimal n) (digits_decimal own n (omega arith))
