-- What was chosen or copied in one range after another.
use Rattle.std.specs.Prelude.{◌⊎◌, get_or, ◌≡◌, ◌≤◌, ◌<◌, ◌+◌, ◌-◌, ℕ, ◌/◌, ◌%◌, ◌^◌, ◌==◌, List, [], ◌∷◌, ◌++◌, length, take, min, max, slice_index, slice_set, slice_range, Bool, true, false, ◌||◌, if◌then◌else◌, refl}
use Rattle.std.proofs.Common.{inl, inr, ap, ◌∙◌, sym, arith}
use Rattle.std.proofs.lemmas.Bool.Decides.{nat_tests}
use Rattle.std.proofs.lemmas.Grind.{common_steps}
use Rattle.std.proofs.lemmas.List.{take_more}
use borrow.Rule.Slice.PartMut.{put_mid}
use Rattle.tier_outside.specs.Disk.{is_touched}
use Rattle.tier_outside.proofs.DiskImages.{touched_more}
use Rattle.mem_disk.specs.declared.pick.Pick.{Pick}
use Rattle.mem_disk.specs.declared.pick.Pick.TheVariants.{Old, New, Mixed, Junk}
use Rattle.mem_disk.specs.Picks.{chosen}
use Rattle.mem_disk.specs.Steps.Choosing.{ChosenIn, CopiedIn, is_between}

-- a byte that was chosen is chosen again
pub chosen_twice : (pick : Pick) (at old new : ℕ) → chosen pick at old (chosen pick at old new) ≡ chosen pick at old new
chosen_twice Old at old new = refl
chosen_twice New at old new = refl
chosen_twice (Mixed bits) at old new = twice (bits / 2 ^ (at % 64) % 2 == 0)
  where
    twice : (b : Bool) → (if b then old else (if b then old else new)) ≡ (if b then old else new)
    twice true = refl
    twice false = refl
chosen_twice (Junk byte) at old new = refl

pub chosen_again : (pick : Pick) (p q : ℕ → Bool) (stable old now new : List ℕ)
    → ChosenIn pick p stable old now → ChosenIn pick q stable now new → ChosenIn pick (λ i. p i || q i) stable old new
chosen_again pick p q stable old now new one two = record {
  size = two.size ∙ one.size;
  bytes = λ i below.
      two.bytes i (omega (arith, one.size)) ∙ joined (p i) (q i) i (slice_index stable i) (slice_index old i) (slice_index now i) (one.bytes i below);
}
  where
    joined : (a b : Bool) (i s o n : ℕ) → n ≡ (if a then chosen pick i s o else o)
        → (if b then chosen pick i s n else n) ≡ (if (a || b) then chosen pick i s o else o)
    joined true true i s o n is = ap (chosen pick i s) is ∙ chosen_twice pick i s o
    joined true false i s o n is = is
    joined false true i s o n is = ap (chosen pick i s) is
    joined false false i s o n is = is

pub chosen_same : (pick : Pick) (p q : ℕ → Bool) (stable old new : List ℕ) → ((i : ℕ) → i < length old → p i ≡ q i) → ChosenIn pick p stable old new → ChosenIn pick q stable old new
chosen_same pick p q stable old new same one = record {
  size = one.size;
  bytes = λ i below. one.bytes i below ∙ ap (λ b. if b then chosen pick i (slice_index stable i) (slice_index old i) else slice_index old i) (same i below);
}

pub chosen_none : (pick : Pick) (stable old : List ℕ) → ChosenIn pick (λ i. false) stable old old
chosen_none pick stable old = record { size = refl; bytes = λ i below. refl }

pub copied_again : (p q : ℕ → Bool) (from old now new : List ℕ) → CopiedIn p from old now → CopiedIn q from now new → CopiedIn (λ i. p i || q i) from old new
copied_again p q from old now new one two = record {
  size = two.size ∙ one.size;
  bytes = λ i below. two.bytes i (omega (arith, one.size)) ∙ joined (p i) (q i) (slice_index from i) (slice_index old i) (slice_index now i) (one.bytes i below);
}
  where
    joined : (a b : Bool) (f o n : ℕ) → n ≡ (if a then f else o) → (if b then f else n) ≡ (if (a || b) then f else o)
    joined true true f o n is = refl
    joined true false f o n is = is
    joined false true f o n is = refl
    joined false false f o n is = is

pub copied_same : (p q : ℕ → Bool) (from old new : List ℕ) → ((i : ℕ) → i < length old → p i ≡ q i) → CopiedIn p from old new → CopiedIn q from old new
copied_same p q from old new same one = record {
  size = one.size;
  bytes = λ i below. one.bytes i below ∙ ap (λ b. if b then slice_index from i else slice_index old i) (same i below);
}

pub copied_none : (from old : List ℕ) → CopiedIn (λ i. false) from old old
copied_none from old = record { size = refl; bytes = λ i below. refl }

-- one more range
pub ranges_more : (ranges : List (ℕ × ℕ)) (k : ℕ) (range : ℕ × ℕ) (i : ℕ) → k < length ranges → take (k + 1) ranges ≡ take k ranges ++ range ∷ []
    → (is_touched (take k ranges) i || is_between range.0 range.1 i) ≡ is_touched (take (k + 1) ranges) i
ranges_more ranges k range i below more = sym (ap (λ rs. is_touched rs i) more ∙ touched_more (take k ranges) range i)

pub between_reached : (start at end size i : ℕ) → at ≡ max start (min end size) → i < size → is_between start at i ≡ is_between start end i
between_reached start at end size i is below = grind (arith, nat_tests)

-- one more byte
pub between_more : (start at i : ℕ) → start ≤ at → (is_between start at i || (i == at)) ≡ is_between start (at + 1) i
between_more start at i le = grind (arith, nat_tests)

pub between_end : (start last end size i : ℕ) → last ≡ min end size → i < size → is_between start last i ≡ is_between start end i
between_end start last end size i is below = grind (arith, nat_tests)

pub between_none : (start end i : ℕ) → end ≤ start → false ≡ is_between start end i
between_none start end i le = grind (arith, nat_tests)

pub chosen_set : (pick : Pick) (stable old : List ℕ) (at byte : ℕ) → at < length old → byte ≡ chosen pick at (slice_index stable at) (slice_index old at) → ChosenIn pick (λ i. i == at) stable old (slice_set old at byte)
chosen_set pick stable old at byte below is = record { size = grind (arith, common_steps); bytes = λ i under. there i under }
  where
    there : (i : ℕ) → i < length old → slice_index (slice_set old at byte) i ≡ (if (i == at) then chosen pick i (slice_index stable i) (slice_index old i) else slice_index old i)
    there i under = grind (arith, common_steps, nat_tests)

-- a list with another part in its midst, byte by byte
pub put_before : (a k : ℕ) (xs ys : List ℕ) (i : ℕ) → i < a → a ≤ length xs → slice_index (put_mid a k xs ys) i ≡ slice_index xs i
put_before a k xs ys i under within = grind (arith, common_steps)

pub put_within : (a k : ℕ) (xs ys : List ℕ) (i : ℕ) → a ≤ length xs → a ≤ i → i < a + length ys → slice_index (put_mid a k xs ys) i ≡ slice_index ys (i - a)
put_within a k xs ys i within least under = grind (arith, common_steps)

pub put_behind : (a k : ℕ) (xs ys : List ℕ) (i : ℕ) → a ≤ length xs → length ys ≡ k → a + k ≤ i → slice_index (put_mid a k xs ys) i ≡ slice_index xs i
put_behind a k xs ys i within same least = grind (arith, common_steps)

pub part_index : (xs : List ℕ) (a e i : ℕ) → a ≤ i → i < e → slice_index (slice_range xs a e) (i - a) ≡ slice_index xs i
part_index xs a e i least under = grind (arith, common_steps)

pub part_length : (xs : List ℕ) (a e : ℕ) → e ≤ length xs → length (slice_range xs a e) ≡ e - a
part_length xs a e within = grind (arith, common_steps)

pub copied_put : (from old ys : List ℕ) (start last end : ℕ) → start < last → last ≡ min end (length old) → length from ≡ length old → ys ≡ slice_range from start last
    → CopiedIn (is_between start end) from old (put_mid start (last - start) old ys)
copied_put from old ys start last end some is same copied = record {
  size = grind (arith, common_steps);
  bytes = λ i under. by_test i under (is_between start end i) refl;
}
  where
    long : length ys ≡ last - start
    long = ap length copied ∙ part_length from start last (omega arith)

    before : (i : ℕ) → i < start → slice_index (put_mid start (last - start) old ys) i ≡ slice_index old i
    before i under = put_before start (last - start) old ys i under (omega arith)

    within : (i : ℕ) → start ≤ i → i < last → slice_index (put_mid start (last - start) old ys) i ≡ slice_index from i
    within i least under =
        put_within start (last - start) old ys i (omega arith) least (omega (arith, long)) ∙ ap (λ zs. slice_index zs (i - start)) copied ∙ part_index from start last i least under

    behind : (i : ℕ) → last ≤ i → i < length old → slice_index (put_mid start (last - start) old ys) i ≡ slice_index old i
    behind i least under = put_behind start (last - start) old ys i (omega arith) long (omega arith)

    inside : (i : ℕ) → i < length old → is_between start end i ≡ true → (start ≤ i) × (i < last)
    inside i under holds = grind (arith, nat_tests)

    outside : (i : ℕ) → is_between start end i ≡ false → (i < start) ⊎ (end ≤ i)
    outside i fails = grind (arith, nat_tests)

    by_test : (i : ℕ) → i < length old → (b : Bool) → is_between start end i ≡ b
        → slice_index (put_mid start (last - start) old ys) i ≡ (if b then slice_index from i else slice_index old i)
    by_test i under true holds = within i (inside i under holds).0 (inside i under holds).1
    by_test i under false fails = elim (outside i fails) [ inl low ↦ before i low | inr high ↦ behind i (omega arith) under ]

-- what was chosen in the ranges so far, and in one more
pub chosen_ranges : (pick : Pick) (ranges : List (ℕ × ℕ)) (k : ℕ) (stable old now new : List ℕ) → k < length ranges
    → ChosenIn pick (is_touched (take k ranges)) stable old now
    → ChosenIn pick (is_between (get_or ranges k (0, 0)).0 (get_or ranges k (0, 0)).1) stable now new
    → ChosenIn pick (is_touched (take (k + 1) ranges)) stable old new
chosen_ranges pick ranges k stable old now new below one two =
    chosen_same pick _ _ stable old new (λ i under. ranges_more ranges k (get_or ranges k (0, 0)) i below (take_more ranges k (0, 0) below))
    (chosen_again pick _ _ stable old now new one two)

-- what was copied in the ranges so far, and in one more
pub copied_ranges : (ranges : List (ℕ × ℕ)) (k : ℕ) (from old now new : List ℕ) → k < length ranges
    → CopiedIn (is_touched (take k ranges)) from old now
    → CopiedIn (is_between (get_or ranges k (0, 0)).0 (get_or ranges k (0, 0)).1) from now new
    → CopiedIn (is_touched (take (k + 1) ranges)) from old new
copied_ranges ranges k from old now new below one two =
    copied_same _ _ from old new (λ i under. ranges_more ranges k (get_or ranges k (0, 0)) i below (take_more ranges k (0, 0) below))
    (copied_again _ _ from old now new one two)
