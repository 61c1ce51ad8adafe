-- Bits of a row of words.
use Rattle.std.proofs.Common.{◌≡◌, ℕ, ◌*◌, ◌/◌, ◌%◌, ◌^◌, ◌<◌, List, true, false, ◌||◌, length, get_or, set, refl, sym, ap, ◌∙◌, subst, ⊎_elim, arith, zero, suc}
use Rattle.std.specs.Prelude.{slice_index, slice_set, bit_or, replicate, ◌==◌}
use Rattle.std.specs.Int.{bit_at, w64}
use Rattle.std.proofs.lemmas.Nat.Bits.{bit_at-zero, bit_at_set_same, bit_at_set_other}
use Rattle.std.proofs.lemmas.List.{get_or-set_same, get_or-set_other}
use Rattle.std.proofs.lemmas.Bool.{cases_eq}
use Rattle.std.proofs.lemmas.Bool.Decides.{nat_tests}
use Rattle.hit_sets.specs.Steps.{bit_of}

-- a row of zeros
zeros_at : (n k : ℕ) → get_or (replicate {A = ℕ} n 0) k 0 ≡ 0
zeros_at zero k = refl
zeros_at (suc n) zero = refl
zeros_at (suc n) (suc k) = zeros_at n k

-- no bit of a row of zeros is set
pub no_bit : (n i : ℕ) → bit_of (replicate {A = ℕ} n 0) i ≡ false
no_bit n i = ap (λ w. bit_at w (i % 64) == 1) (zeros_at n (i / 64)) ∙ ap (λ b. b == 1) (bit_at-zero (i % 64))

same_is : (n : ℕ) → (n == n) ≡ true
same_is n = grind (arith, nat_tests)

apart : (a b : ℕ) → (a ≡ b → ⊥) → (a == b) ≡ false
apart a b ne = grind (arith, nat_tests, ne)

-- setting bit r of a word sets it and changes no other
one_word_set : (word r j : ℕ) → r < 64 → (bit_at (bit_or word (1 * 2 ^ r % 2 ^ 64)) j == 1) ≡ ((r == j) || (bit_at word j == 1))
one_word_set word r j within = ⊎_elim
    (λ (e : r ≡ j). subst (λ (n : ℕ). (bit_at (bit_or word (1 * 2 ^ r % 2 ^ 64)) n == 1) ≡ ((r == n) || (bit_at word n == 1))) e
    (ap (λ b. b == 1) (bit_at_set_same w64 word r within) ∙ sym (ap (λ b. b || (bit_at word r == 1)) (same_is r))))
    (λ (ne : r ≡ j → ⊥). ap (λ b. b == 1) (bit_at_set_other w64 word r within j (λ e. ne (sym e))) ∙ sym (ap (λ b. b || (bit_at word j == 1)) (apart r j ne)))
    (cases_eq r j)

-- two bits of one word are the same where their places in it are
in_one_word : (bit i : ℕ) → bit / 64 ≡ i / 64 → (bit == i) ≡ (bit % 64 == i % 64)
in_one_word bit i e = ⊎_elim
    (λ (same : bit ≡ i). subst (λ (n : ℕ). (bit == n) ≡ (bit % 64 == n % 64)) same (same_is bit ∙ sym (same_is (bit % 64))))
    (λ (ne : bit ≡ i → ⊥). apart bit i ne ∙ sym (apart (bit % 64) (i % 64) (λ f. ne (omega arith))))
    (cases_eq bit i)

-- a bit is set in its word and no other bit changes
pub one_bit_set : (words : List ℕ) (bit i : ℕ) → bit < 64 * length words → bit_of (slice_set words (bit / 64) (bit_or (slice_index words (bit / 64)) (1 * 2 ^ (bit % 64) % 2 ^ 64))) i ≡ ((bit == i) || bit_of words i)
one_bit_set words bit i within = ⊎_elim
    (λ (e : bit / 64 ≡ i / 64).
    subst (λ (k : ℕ). (bit_at (get_or (set words (bit / 64) (bit_or (get_or words (bit / 64) 0) (1 * 2 ^ (bit % 64) % 2 ^ 64))) k 0) (i % 64) == 1) ≡ ((bit == i) || (bit_at (get_or words k 0) (i % 64) == 1))) e
    (ap (λ w. bit_at w (i % 64) == 1) (get_or-set_same words (bit / 64) (bit_or (get_or words (bit / 64) 0) (1 * 2 ^ (bit % 64) % 2 ^ 64)) 0 (omega arith))
    ∙ one_word_set (get_or words (bit / 64) 0) (bit % 64) (i % 64) (omega arith)
    ∙ ap (λ b. b || (bit_at (get_or words (bit / 64) 0) (i % 64) == 1)) (sym (in_one_word bit i e))))
    (λ (ne : bit / 64 ≡ i / 64 → ⊥).
    ap (λ w. bit_at w (i % 64) == 1) (get_or-set_other words (bit / 64) (i / 64) (bit_or (get_or words (bit / 64) 0) (1 * 2 ^ (bit % 64) % 2 ^ 64)) 0 (λ e. ne (sym e)))
    ∙ ap (λ b. b || (bit_at (get_or words (i / 64) 0) (i % 64) == 1)) (sym (apart bit i (λ e. ne (ap (λ n. n / 64) e)))))
    (cases_eq (bit / 64) (i / 64))
