-- Laws of the images that a stop in one write to a range may leave.
use Rattle.std.specs.Prelude.{◌≡◌, ◌≤◌, ◌<◌, ◌+◌, ℕ, List, [], ◌∷◌, ◌++◌, length, slice_index}
use Rattle.std.specs.Prelude.{false, nat_le, nat_lt, ◌&&◌, refl}
use Rattle.std.proofs.Common.{◌∙◌, subst, arith}
use Rattle.std.proofs.lemmas.Bool.Decides.{nat_tests}
use Rattle.tier_outside.specs.Disk.{DiskMoment, IsImage, Writes, settled, reach, is_touched}
use Rattle.tier_outside.specs.Disk.{StopsIn}
use Rattle.tier_outside.proofs.DiskImages.{touched_more, split_touched}

-- a byte that a wider range does not hold
narrower : (off count off2 count2 i : ℕ) → off2 ≤ off → off + count ≤ off2 + count2
    → (nat_le off2 i && nat_lt i (off2 + count2)) ≡ false
    → (nat_le off i && nat_lt i (off + count)) ≡ false
narrower off count off2 count2 i low high none = grind (arith, nat_tests)

reach_wider : (off count off2 count2 : ℕ) → off2 ≤ off → off + count ≤ off2 + count2
    → reach off count ≤ reach off2 count2
reach_wider off count off2 count2 low high = grind (arith, nat_tests)

-- neither the ranges so far hold it, nor one more
pub untouched_more : (ranges : List (ℕ × ℕ)) (range : ℕ × ℕ) (i : ℕ) → is_touched ranges i ≡ false
    → (nat_le range.0 i && nat_lt i range.1) ≡ false
    → is_touched (ranges ++ range ∷ []) i ≡ false
untouched_more ranges range i before behind =
    touched_more ranges range i ∙ rw before (rw behind refl)

-- it might have been left before
pub stops_before : (off count : ℕ) (d : DiskMoment) (image : List ℕ) → IsImage d image
    → StopsIn off count d image
stops_before off count d image is = record {
  no_shorter = is.no_shorter;
  no_longer = omega (arith, is.no_longer);
  kept = λ i below untouched. is.kept i below
      (split_touched d.touched (off, off + count) i untouched).0;
}

-- it is left in a write
pub stops_written : (off count : ℕ) (d e : DiskMoment) (image : List ℕ) → Writes off count d e
    → IsImage e image → StopsIn off count d image
stops_written off count d e image wrote is =
    let same = subst (λ x. IsImage x image) wrote.is is in
    record { no_shorter = same.no_shorter; no_longer = same.no_longer; kept = same.kept }

-- in a wider range
pub stops_wider : (off count off2 count2 : ℕ) (d : DiskMoment) (image : List ℕ) → off2 ≤ off
    → off + count ≤ off2 + count2
    → StopsIn off count d image → StopsIn off2 count2 d image
stops_wider off count off2 count2 d image low high is = record {
  no_shorter = is.no_shorter;
  no_longer = omega (arith, is.no_longer, reach_wider off count off2 count2 low high);
  kept = λ i below untouched.
      let split = split_touched d.touched (off2, off2 + count2) i untouched in
      is.kept i below (untouched_more d.touched (off, off + count) i split.0
      (narrower off count off2 count2 i low high split.1));
}

-- a second write to the range, after the first was settled
pub stops_again : (off count : ℕ) (d : DiskMoment) (middle image : List ℕ)
    → StopsIn off count d middle → StopsIn off count (settled middle) image
    → StopsIn off count d image
stops_again off count d middle image first second = record {
  no_shorter = omega (arith, first.no_shorter, second.no_shorter);
  no_longer = omega (arith, first.no_longer, second.no_longer);
  kept = λ i below untouched.
      let split = split_touched d.touched (off, off + count) i untouched in
      second.kept i (omega (arith, first.no_shorter)) (rw split.1 refl)
      ∙ first.kept i below untouched;
}

-- a byte that stands in front of the range of a write to a settled disk
pub stops_front : (off count : ℕ) (old image : List ℕ) (i : ℕ) → i < off → i < length old
    → StopsIn off count (settled old) image → slice_index image i ≡ slice_index old i
stops_front off count old image i front below is = is.kept i below (apart off count i front)
  where
    apart : (off count i : ℕ) → i < off → is_touched ((off, off + count) ∷ []) i ≡ false
    apart off count i front = grind (arith, nat_tests)

-- and one behind it
pub stops_behind : (off count : ℕ) (old image : List ℕ) (i : ℕ) → off + count ≤ i → i < length old
    → StopsIn off count (settled old) image → slice_index image i ≡ slice_index old i
stops_behind off count old image i behind below is = is.kept i below (apart off count i behind)
  where
    apart : (off count i : ℕ) → off + count ≤ i → is_touched ((off, off + count) ∷ []) i ≡ false
    apart off count i behind = grind (arith, nat_tests)

-- the size of a settled disk after a write within it
pub stops_within : (off count : ℕ) (old image : List ℕ) → off + count ≤ length old
    → StopsIn off count (settled old) image → length image ≡ length old
stops_within off count old image within is =
    omega (arith, is.no_shorter, is.no_longer, reached off count)
  where
    reached : (off count : ℕ) → reach off count ≤ off + count
    reached off count = grind (arith, nat_tests)
