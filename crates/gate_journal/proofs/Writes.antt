-- The bytes of a disk after writes, by place.
use Rattle.std.specs.Prelude.{◌≡◌, ◌≤◌, ◌<◌, ◌+◌, ◌-◌, ℕ, List, [], ◌∷◌, ◌++◌, length, take}
use Rattle.std.specs.Prelude.{drop, slice_index, max, replicate, refl}
use Rattle.std.proofs.Common.{◌∙◌, sym, ap, arith, inl, inr}
use Rattle.std.proofs.lemmas.Bool.{cases_lt}
use Rattle.std.proofs.lemmas.Bool.Decides.{nat_tests}
use Rattle.std.proofs.lemmas.List.{ext_get_or, get_or-take, get_or-drop, length-take, length-append}
use Rattle.std.proofs.lemmas.List.{length-replicate, get_or_append_left, get_or-append_right}
use Rattle.std.proofs.lemmas.List.{get_or_past, get_or-replicate}
use Rattle.tier_outside.specs.Disk.{written, filled, reach}
use Rattle.tier_outside.proofs.DiskImages.{length_written, written_none}
use Rattle.gate_journal.specs.Steps.Writing.{staged, opened}
use Rattle.gate_journal.proofs.Records.{ThereAt, index_cons}

length_filled : (size : ℕ) (old : List ℕ) → length (filled size old) ≡ max (length old) size
length_filled size old =
    omega (
      arith,
      length-append old (replicate (size - length old) 0),
      length-replicate {A = ℕ} (size - length old) 0,
    )

-- past the old end a disk is filled with zeros, as past the end of a list
filled_index : (size : ℕ) (old : List ℕ) (i : ℕ)
    → slice_index (filled size old) i ≡ slice_index old i
filled_index size old i =
    elim (cases_lt i (length old)) [
      | inl below ↦ get_or_append_left old (replicate (size - length old) 0) 0 i below
      | inr past ↦ behind past ∙ sym (get_or_past old i 0 past)
    ]
  where
    behind : length old ≤ i → slice_index (filled size old) i ≡ 0
    behind past =
        elim (cases_lt (i - length old) (size - length old)) [
          | inl under ↦ get_or-append_right old (replicate (size - length old) 0)
              (length old) i 0 refl past ∙ get_or-replicate (size - length old)
              (i - length old) 0 0 under
          | inr over ↦ get_or_past (filled size old) i 0 (omega (arith, length_filled size old))
        ]

reach_some : (off : ℕ) (b : ℕ) (bytes : List ℕ)
    → reach off (length (b ∷ bytes)) ≡ off + length (b ∷ bytes)
reach_some off b bytes = grind (arith, nat_tests)

-- how long a body is that reaches to the end of what is written
whole_size : (off b : ℕ) (bytes old : List ℕ)
    → length (filled (reach off (length (b ∷ bytes))) old)
    ≡ max (length old) (off + length (b ∷ bytes))
whole_size off b bytes old =
    length_filled (reach off (length (b ∷ bytes))) old
    ∙ ap (max (length old)) (reach_some off b bytes)

-- what was written stands at its place
pub written_in : (off : ℕ) (bytes old : List ℕ) (k : ℕ) → k < length bytes
    → slice_index (written off bytes old) (off + k) ≡ slice_index bytes k
written_in off [] old k below = absurd (omega arith)
written_in off (b ∷ bytes) old k below =
    let all : List ℕ = b ∷ bytes in
    let whole : List ℕ = filled (reach off (length all)) old in
    let size : length whole ≡ max (length old) (off + length all) = whole_size off b bytes old in
    let front : length (take off whole) ≡ off = omega (arith, length-take off whole) in
    let minus : off + k - off ≡ k = omega arith in
    get_or_append_left (take off whole ++ all) (drop (off + length all) whole) 0 (off + k)
    (omega (arith, length-append (take off whole) all))
    ∙ get_or-append_right (take off whole) all off (off + k) 0 front (omega arith)
    ∙ ap (slice_index all) minus

-- what stands in front of it stays
pub written_front : (off : ℕ) (bytes old : List ℕ) (i : ℕ) → i < off
    → slice_index (written off bytes old) i ≡ slice_index old i
written_front off [] old i low = ap (λ xs. slice_index xs i) (written_none off old)
written_front off (b ∷ bytes) old i low =
    let all : List ℕ = b ∷ bytes in
    let whole : List ℕ = filled (reach off (length all)) old in
    let size : length whole ≡ max (length old) (off + length all) = whole_size off b bytes old in
    let front : length (take off whole) ≡ off = omega (arith, length-take off whole) in
    get_or_append_left (take off whole ++ all) (drop (off + length all) whole) 0 i
    (omega (arith, length-append (take off whole) all))
    ∙ get_or_append_left (take off whole) all 0 i (omega arith) ∙ get_or-take off whole i 0 low
    ∙ filled_index (reach off (length all)) old i

-- and what stands behind it
pub written_behind : (off : ℕ) (bytes old : List ℕ) (i : ℕ) → off + length bytes ≤ i
    → slice_index (written off bytes old) i ≡ slice_index old i
written_behind off [] old i high = ap (λ xs. slice_index xs i) (written_none off old)
written_behind off (b ∷ bytes) old i high =
    let all : List ℕ = b ∷ bytes in
    let whole : List ℕ = filled (reach off (length all)) old in
    let size : length whole ≡ max (length old) (off + length all) = whole_size off b bytes old in
    let front : length (take off whole ++ all) ≡ off + length all =
    omega (arith, length-take off whole, length-append (take off whole) all) in
    let plus : off + length all + (i - (off + length all)) ≡ i = omega arith in
    get_or-append_right (take off whole ++ all) (drop (off + length all) whole)
    (off + length all) i 0 front high
    ∙ get_or-drop (off + length all) whole (i - (off + length all)) 0 ∙ ap (slice_index whole) plus
    ∙ filled_index (reach off (length all)) old i

-- a write over a write from the same place that was no longer
pub written_over : (off : ℕ) (short long old : List ℕ) → length short ≤ length long
    → written off long (written off short old) ≡ written off long old
written_over off short long old shorter =
    ext_get_or 0 (written off long (written off short old)) (written off long old)
    (length_written off long (written off short old)
    ∙ ap (λ n. max n (reach off (length long))) (length_written off short old) ∙ longest
    ∙ sym (length_written off long old))
    (λ i below.
    elim (cases_lt i off) [
      | inl low ↦ written_front off long (written off short old) i low
          ∙ written_front off short old i low ∙ sym (written_front off long old i low)
      | inr high ↦
          elim (cases_lt i (off + length long)) [
            | inl under ↦ inside i high under
            | inr over ↦ written_behind off long (written off short old) i over
                ∙ written_behind off short old i (omega arith)
                ∙ sym (written_behind off long old i over)
          ]
    ])
  where
    reaches : reach off (length short) ≤ reach off (length long)
    reaches = grind (arith, nat_tests)

    longest : max (max (length old) (reach off (length short))) (reach off (length long))
        ≡ max (length old) (reach off (length long))
    longest = omega (arith, reaches)

    inside : (i : ℕ) → off ≤ i → i < off + length long
        → slice_index (written off long (written off short old)) i
        ≡ slice_index (written off long old) i
    inside i high under =
        let place : i ≡ off + (i - off) = omega arith in
        ap (slice_index (written off long (written off short old))) place
        ∙ written_in off long (written off short old) (i - off) (omega arith)
        ∙ sym (written_in off long old (i - off) (omega arith))
        ∙ ap (slice_index (written off long old)) (sym place)

-- the bytes behind a gate, and the open gate
pub length_opened : (gate : ℕ) (b : ℕ) (body old : List ℕ)
    → length (opened gate (b ∷ body) old) ≡ max (length old) (gate + 1 + length (b ∷ body))
length_opened gate b body old =
    length_written gate (1 ∷ []) (staged gate (b ∷ body) old)
    ∙ ap (λ n. max n (reach gate 1)) (length_written (gate + 1) (b ∷ body) old)
    ∙ omega (arith, reach_some (gate + 1) b body, reach_some gate 1 [])

-- an open record stands where it was written and opened
pub opened_there : (gate : ℕ) (b : ℕ) (body old : List ℕ)
    → ThereAt (opened gate (b ∷ body) old) gate (1 ∷ b ∷ body)
opened_there gate b body old =
    record { long = omega (arith, length_opened gate b body old); bytes_are = bytes }
  where
    bytes : (k : ℕ) → k < length (1 ∷ b ∷ body)
        → slice_index (opened gate (b ∷ body) old) (gate + k) ≡ slice_index (1 ∷ b ∷ body) k
    bytes k below =
        elim (cases_lt k 1) [
          | inl first ↦
              let none : k ≡ 0 = omega arith in
              ap (λ n. slice_index (opened gate (b ∷ body) old) (gate + n)) none
              ∙ written_in gate (1 ∷ []) (staged gate (b ∷ body) old) 0 (omega arith)
              ∙ ap (slice_index (1 ∷ b ∷ body)) (sym none)
          | inr later ↦
              let place : gate + k ≡ gate + 1 + (k - 1) = omega arith in
              let more : k ≡ k - 1 + 1 = omega arith in
              written_behind gate (1 ∷ []) (staged gate (b ∷ body) old) (gate + k) (omega arith)
              ∙ ap (slice_index (staged gate (b ∷ body) old)) place
              ∙ written_in (gate + 1) (b ∷ body) old (k - 1) (omega arith)
              ∙ sym (index_cons 1 (b ∷ body) (k - 1)) ∙ ap (slice_index (1 ∷ b ∷ body)) (sym more)
        ]

-- it is as if it had been written at once
pub opened_once : (gate : ℕ) (b : ℕ) (body old : List ℕ)
    → opened gate (b ∷ body) old ≡ written gate (1 ∷ b ∷ body) old
opened_once gate b body old =
    ext_get_or 0 (opened gate (b ∷ body) old) (written gate (1 ∷ b ∷ body) old)
    (length_opened gate b body old
    ∙ omega (arith, length_written gate (1 ∷ b ∷ body) old, reach_some gate 1 (b ∷ body)))
    (λ i below.
    elim (cases_lt i gate) [
      | inl low ↦ written_front gate (1 ∷ []) (staged gate (b ∷ body) old) i low
          ∙ written_front (gate + 1) (b ∷ body) old i (omega arith)
          ∙ sym (written_front gate (1 ∷ b ∷ body) old i low)
      | inr high ↦
          elim (cases_lt i (gate + length (1 ∷ b ∷ body))) [
            | inl under ↦
                let place : i ≡ gate + (i - gate) = omega arith in
                ap (slice_index (opened gate (b ∷ body) old)) place
                ∙ (opened_there gate b body old).bytes_are (i - gate) (omega arith)
                ∙ sym (written_in gate (1 ∷ b ∷ body) old (i - gate) (omega arith))
                ∙ ap (slice_index (written gate (1 ∷ b ∷ body) old)) (sym place)
            | inr over ↦
                written_behind gate (1 ∷ []) (staged gate (b ∷ body) old) i (omega arith)
                ∙ written_behind (gate + 1) (b ∷ body) old i (omega arith)
                ∙ sym (written_behind gate (1 ∷ b ∷ body) old i over)
          ]
    ])
