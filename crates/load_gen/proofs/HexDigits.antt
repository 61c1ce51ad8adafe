-- A number that is written in hexadecimal, and filled up with zeros to sixteen places, has its sixteen digits.
use Rattle.std.proofs.Common.{◌≡◌, ℕ, zero, suc, ◌+◌, ◌-◌, ◌/◌, ◌%◌, ◌^◌, ◌<◌, ◌≤◌, Bool, true, false, cond, eqb, List, [], ◌∷◌, ◌++◌, length, refl, sym, ap, ◌∙◌, ⊎_elim, arith, eq-eqb}
use Rattle.std.specs.Prelude.{replicate}
use Rattle.std.specs.Fmt.{digits, digits_onto, digit_glyph, padded_integral, format_spec, char_count}
use Rattle.std.proofs.Math.Nat.{pow-suc}
use Rattle.std.proofs.lemmas.Bool.{cases_lt}
use Rattle.std.proofs.lemmas.List.{append_assoc, append-nil}
use Rattle.load_gen.specs.Script.{hex_digits}

one_more : (k digit : ℕ) → replicate k digit ++ digit ∷ [] ≡ replicate (suc k) digit
one_more zero digit = refl
one_more (suc k) digit = ap (λ (ds : List ℕ). digit ∷ ds) (one_more k digit)

-- the digits of zero
hex_digits-zero : (k : ℕ) → hex_digits k 0 ≡ replicate k 48
unfolding hex_digits
hex_digits-zero zero = refl
hex_digits-zero (suc k) = ap (λ (ds : List ℕ). ds ++ 48 ∷ []) (hex_digits-zero k) ∙ one_more k 48

-- one round of printing, by whether a digit is left after it
round : (f n : ℕ) (acc : List ℕ) (last : Bool) → eqb (n / 16) 0 ≡ last → digits_onto (suc f) 16 false n acc ≡ cond last (digit_glyph false (n % 16) ∷ acc) (digits_onto f 16 false (n / 16) (digit_glyph false (n % 16) ∷ acc))
round f n acc last e = ap (λ (b : Bool). cond b (digit_glyph false (n % 16) ∷ acc) (digits_onto f 16 false (n / 16) (digit_glyph false (n % 16) ∷ acc))) e

-- how the digits in k + 1 places stand to those that are shown, which are the shortest
record IsFilled (k n : ℕ) (acc shown : List ℕ) : Type 0 where
  len : ℕ
  short : len ≤ suc k
  counts : length shown ≡ len + length acc
  filled : hex_digits (suc k) n ++ acc ≡ replicate (suc k - len) 48 ++ shown

filled_one : (k f n : ℕ) (acc : List ℕ) → n < 16 → IsFilled k n acc (digits_onto (suc f) 16 false n acc)
unfolding hex_digits
filled_one k f n acc small =
    let high : n / 16 ≡ 0 = omega arith in
    let shown = round f n acc true (eq-eqb (n / 16) 0 high) in
    let places : suc k - 1 ≡ k = omega arith in
    record {
      len = 1;
      short = omega arith;
      counts = ap length shown ∙ (omega arith);
      filled = rw (shown, high, hex_digits-zero k, places) (append_assoc (replicate k 48) (digit_glyph false (n % 16) ∷ []) acc);
    }

filled_more : (k f n : ℕ) (acc : List ℕ) → 16 ≤ n → IsFilled k (n / 16) (digit_glyph false (n % 16) ∷ acc) (digits_onto f 16 false (n / 16) (digit_glyph false (n % 16) ∷ acc)) → IsFilled (suc k) n acc (digits_onto (suc f) 16 false n acc)
unfolding hex_digits
filled_more k f n acc large rest =
    let shown = round f n acc false (grind arith) in
    let places : suc (suc k) - suc rest.len ≡ suc k - rest.len = omega arith in
    record {
      len = suc rest.len;
      short = omega (arith, rest.short);
      counts = ap length shown ∙ rest.counts ∙ omega arith;
      filled = rw (shown, places) (append_assoc (hex_digits (suc k) (n / 16)) (digit_glyph false (n % 16) ∷ []) acc ∙ rest.filled);
    }

filled_onto : (k f n : ℕ) (acc : List ℕ) → n < 16 ^ suc k → k ≤ f → IsFilled k n acc (digits_onto (suc f) 16 false n acc)
filled_onto zero f n acc small fuel = filled_one zero f n acc (omega (arith, pow-suc 16 0))
filled_onto (suc k) zero n acc small fuel = absurd (omega arith)
filled_onto (suc k) (suc f) n acc small fuel = ⊎_elim
    (λ one. filled_one (suc k) (suc f) n acc one)
    (λ more. filled_more k (suc f) n acc more (filled_onto k f (n / 16) (digit_glyph false (n % 16) ∷ acc) (omega (arith, pow-suc 16 (suc k))) (omega arith)))
    (cases_lt n 16)

shown_from : (n : ℕ) → digits 16 false n ≡ digits_onto 64 16 false n []
unfolding digits
shown_from n = refl

-- what a width of sixteen with zeros makes of digits
padded_digits : (ds : List ℕ) → padded_integral (format_spec 32 0 4 16 (2 ^ 64 - 1)) false [] ds ≡ replicate (16 - length ds) 48 ++ ds
unfolding padded_integral char_count
padded_digits ds =
    let zeros : 16 - length ds - 0 - 0 ≡ 16 - length ds = omega arith in
    rw (append-nil ds, zeros)

-- what `{:016x}` writes
pub padded_hex : (n : ℕ) → n < 2 ^ 64 → padded_integral (format_spec 32 0 4 16 (2 ^ 64 - 1)) false [] (digits 16 false n) ≡ hex_digits 16 n
padded_hex n small =
    let shown = digits_onto 64 16 false n [] in
    let f : IsFilled 15 n [] shown = filled_onto 15 63 n [] small (omega arith) in
    let len : length shown ≡ f.len = omega (arith, f.counts) in
    ap (padded_integral (format_spec 32 0 4 16 (2 ^ 64 - 1)) false []) (shown_from n)
    ∙ padded_digits shown
    ∙ ap (λ (k : ℕ). replicate (16 - k) 48 ++ shown) len
    ∙ sym f.filled
    ∙ append-nil (hex_digits 16 n)
