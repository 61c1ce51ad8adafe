-- The bits of a Bloom filter and the names that set them.
use Rattle.std.proofs.Common.{◌≡◌, ℕ, ◌*◌, ◌/◌, List, [], ◌∷◌, ◌++◌, Bool, true, false, ◌||◌, ◌&&◌, length, take, drop, refl, sym, ap, ap₂, ◌∙◌, subst, arith}
use Rattle.std.specs.Prelude.{◌==◌, replicate, if◌then◌else◌}
use Rattle.std.specs.List.{list_all}
use Rattle.std.proofs.lemmas.List.Folds.{list_any-append}
use Rattle.std.proofs.lemmas.List.{length-replicate}
use Rattle.std.proofs.lemmas.Grind.{common_steps}
use Rattle.name_hash.specs.Fnv.{hash_of}
use Rattle.hit_sets.specs.Sets.{bits_of, hash_place, is_set_by, is_set}
use Rattle.hit_sets.specs.Steps.{bit_of, HasBits}
use Rattle.hit_sets.proofs.Words.{no_bit}

whole : (b c : Bool) → (if b then 61440 else (if c then 40960 else 28672)) / 64 * 64 ≡ (if b then 61440 else (if c then 40960 else 28672))
whole true c = refl
whole false true = refl
whole false false = refl

-- a filter without names has no bit set
pub no_bits : (fpp : ℕ) → HasBits fpp (replicate {A = ℕ} (bits_of fpp / 64) 0) []
no_bits fpp = record {
  size = ap (λ n. n * 64) (length-replicate {A = ℕ} (bits_of fpp / 64) 0) ∙ whole (fpp == 1000) (fpp == 10000);
  bits = λ i. no_bit (bits_of fpp / 64) i;
}

-- as many zeros as there are words make a filter without names
pub zeros_have_no_bits : (fpp size : ℕ) (words : List ℕ) (names : List (List ℕ)) → size ≡ bits_of fpp → words ≡ replicate (size / 64) 0 → names ≡ [] → HasBits fpp words names
zeros_have_no_bits fpp size words names is zeros none =
    subst (λ (ns : List (List ℕ)). HasBits fpp words ns) (sym none)
    (subst (λ (ws : List ℕ). HasBits fpp ws []) (sym (zeros ∙ ap (λ n. replicate {A = ℕ} (n / 64) 0) is)) (no_bits fpp))

turned : (a b : Bool) → (a || (b || false)) ≡ (b || a)
turned true true = refl
turned true false = refl
turned false true = refl
turned false false = refl

-- what a write to all of a list leaves of it
all_written : (new old : List ℕ) (n : ℕ) → length new ≡ length old → n ≡ length old → take n (new ++ drop (length new) old) ≡ new
all_written new old n same len = grind (arith, common_steps)

-- one more name sets its bits and no others
bits_pushed : (fpp : ℕ) (old new : List ℕ) (names : List (List ℕ)) (n : List ℕ) → HasBits fpp old names → length new ≡ length old
    → ((i : ℕ) → bit_of new i ≡ (is_set_by fpp i (hash_of n) || bit_of old i)) → HasBits fpp new (names ++ n ∷ [])
bits_pushed fpp old new names n has same set = record {
  size = ap (λ k. k * 64) same ∙ has.size;
  bits = λ i. set i ∙ ap (λ b. is_set_by fpp i (hash_of n) || b) (has.bits i)
      ∙ sym (list_any-append (λ m. is_set_by fpp i (hash_of m)) names (n ∷ []) ∙ turned (is_set fpp names i) (is_set_by fpp i (hash_of n)));
}

-- the same of what the code writes
pub written_bits : (fpp hash len : ℕ) (old new lent : List ℕ) (names more : List (List ℕ)) (n : List ℕ) → HasBits fpp old names → lent ≡ old
    → hash ≡ hash_of n → length new ≡ length lent → len ≡ length old → more ≡ names ++ n ∷ []
    → ((i : ℕ) → bit_of new i ≡ (is_set_by fpp i hash || bit_of lent i)) → HasBits fpp (take len (new ++ drop (length new) old)) more
written_bits fpp hash len old new lent names more n has is hashed same all pushed set =
    subst (λ (ws : List ℕ). HasBits fpp ws more) (sym (all_written new old len (same ∙ ap length is) all))
    (subst (λ (ns : List (List ℕ)). HasBits fpp new ns) (sym pushed)
    (bits_pushed fpp old new names n has (same ∙ ap length is)
    (λ i. set i ∙ ap₂ (λ (h : ℕ) (ws : List ℕ). is_set_by fpp i h || bit_of ws i) hashed is)))

-- the bits tell what the filter contains
pub bits_contain : (fpp : ℕ) (words : List ℕ) (names : List (List ℕ)) (hash : ℕ) → HasBits fpp words names → (ranks : List ℕ)
    → list_all (λ rank. bit_of words (hash_place (bits_of fpp) hash rank)) ranks ≡ list_all (λ rank. is_set fpp names (hash_place (bits_of fpp) hash rank)) ranks
bits_contain fpp words names hash has [] = refl
bits_contain fpp words names hash has (r ∷ ranks) = ap₂ (λ a b. a && b) (has.bits (hash_place (bits_of fpp) hash r)) (bits_contain fpp words names hash has ranks)
