-- The sums of lists in which one record gave place to another.
use Rattle.std.proofs.Common.{◌≡◌, ◌≤◌, ℕ, ◌+◌, ◌-◌, ◌^◌, List, [], ◌∷◌, ◌++◌, length, map, cond, min, Option, Some, None, ap, ap₂, ◌∙◌, arith, refl, subst, sym}
use Rattle.std.specs.List.{sum_by, count_by}
use Rattle.std.proofs.lemmas.List.{length-append, map-append}
use Rattle.std.proofs.lemmas.List.Sums.{sum_by-append, sum_by-cons}
use Rattle.agent_state.specs.declared.totals.Totals.{Totals}
use Rattle.agent_state.specs.Sums.{Weight, totals_of}
use Rattle.agent_state.specs.Modes.{AreTotals}
use Rattle.tier_types.specs.declared.record.TierRec.{TierRec}
use Rattle.tier_rec.specs.Records.{bytes_of, dirty_of, exchanged, listed, records_of, totals_after, totals_over, weight_of}
use Rattle.tier_rec.specs.Laws.{TotalsGoOn}

-- the weights of a list with a record, or none, in the middle
parts : (before : List TierRec) (r : Option TierRec) (behind : List TierRec) →
    map weight_of (before ++ listed r ++ behind) ≡ map weight_of before ++ map weight_of (listed r) ++ map weight_of behind
parts before r behind =
    map-append weight_of (before ++ listed r) behind ∙ ap (λ ws. ws ++ map weight_of behind) (map-append weight_of before (listed r))

-- a sum over three parts
thrice : (f : Weight → ℕ) (a b c : List Weight) → sum_by f (a ++ b ++ c) ≡ sum_by f a + sum_by f b + sum_by f c
thrice f a b c = sum_by-append f (a ++ b) c ∙ ap (λ n. n + sum_by f c) (sum_by-append f a b)

-- a length of three parts
three_long : (a b c : List Weight) → length (a ++ b ++ c) ≡ length a + length b + length c
three_long a b c = length-append (a ++ b) c ∙ ap (λ n. n + length c) (length-append a b)

-- what one record, or none, adds
dirty_part : (r : Option TierRec) → count_by (λ (w : Weight). w.dirty) (map weight_of (listed r)) ≡ dirty_of r
dirty_part None = refl
dirty_part (Some r) = grind (arith)

bytes_part : (r : Option TierRec) → sum_by (λ (w : Weight). w.bytes) (map weight_of (listed r)) ≡ bytes_of r
bytes_part None = refl
bytes_part (Some r) = grind (arith)

records_part : (r : Option TierRec) → length (map weight_of (listed r)) ≡ records_of r
records_part None = refl
records_part (Some r) = refl

-- totals of three numbers
abbrev totals : ℕ → ℕ → ℕ → Totals
totals records dirty bytes = record { records = records; dirty = dirty; bytes = bytes }

-- equal sums are equal totals
same : (a b c x y z : ℕ) → a ≡ x → b ≡ y → c ≡ z → totals a b c ≡ totals x y z
same a b c x y z e f g = ap₂ (λ r d. totals r d c) e f ∙ ap (λ n. totals x y n) g

abbrev dirty_sum : List TierRec → ℕ
dirty_sum rs = count_by (λ (w : Weight). w.dirty) (map weight_of rs)

abbrev bytes_sum : List TierRec → ℕ
bytes_sum rs = sum_by (λ (w : Weight). w.bytes) (map weight_of rs)

abbrev long : List TierRec → ℕ
long rs = length (map weight_of rs)

-- the totals of a list with a record, or none, in the middle, as sums of numbers
abbrev totals_in : List TierRec → Option TierRec → List TierRec → Totals
totals_in before r behind =
    totals
    (long before + records_of r + long behind)
    (dirty_sum before + dirty_of r + dirty_sum behind)
    (bytes_sum before + bytes_of r + bytes_sum behind)

same_totals : (before : List TierRec) (r : Option TierRec) (behind : List TierRec) →
    totals_over (before ++ listed r ++ behind) ≡ totals_in before r behind
same_totals before r behind =
    let a = map weight_of before in
    let m = map weight_of (listed r) in
    let b = map weight_of behind in
    ap totals_of (parts before r behind)
    ∙ same _ _ _ _ _ _
    (three_long a m b ∙ ap (λ n. length a + n + length b) (records_part r))
    (thrice (λ (w : Weight). cond w.dirty 1 0) a m b ∙ ap (λ n. dirty_sum before + n + dirty_sum behind) (dirty_part r))
    (thrice (λ (w : Weight). w.bytes) a m b ∙ ap (λ n. bytes_sum before + n + bytes_sum behind) (bytes_part r))

-- one part gave place to another in a sum that stays within its limit
one_exchanged : (a old new b : ℕ) → a + new + b ≤ 2 ^ 40 → exchanged (a + old + b) old new ≡ a + new + b
one_exchanged a old new b l = grind (arith)

-- within the limit, as sums of numbers
within : (before : List TierRec) (r : Option TierRec) (behind : List TierRec) →
    AreTotals (totals_over (before ++ listed r ++ behind)) → AreTotals (totals_in before r behind)
within before r behind few =
    let P : Totals → Type 0 = λ t. AreTotals t in subst P (same_totals before r behind) few

pub totals_go_on : (old new : Option TierRec) → TotalsGoOn old new
totals_go_on old new before behind few =
    let fits = within before new behind few in
    ap (λ t. totals_after t old new) (same_totals before old behind)
    ∙ same _ _ _ _ _ _
    (one_exchanged (long before) (records_of old) (records_of new) (long behind) fits.records_few)
    (one_exchanged (dirty_sum before) (dirty_of old) (dirty_of new) (dirty_sum behind) fits.dirty_few)
    (one_exchanged (bytes_sum before) (bytes_of old) (bytes_of new) (bytes_sum behind) fits.bytes_few)
    ∙ sym (same_totals before new behind)
