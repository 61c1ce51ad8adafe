-- What reads from a disk tell of a record.
use Rattle.std.specs.Prelude.{◌≡◌, ◌⊎◌, ◌≤◌, ◌<◌, ◌+◌, ◌-◌, ℕ, List, length, take, drop}
use Rattle.std.specs.Prelude.{slice_index, Option, Some, None, refl}
use Rattle.std.proofs.Common.{◌∙◌, sym, ap, arith, inl, inr}
use Rattle.std.proofs.lemmas.Bool.{cases_lt}
use Rattle.std.proofs.lemmas.List.{get_or-take, length-take, drop-take, take-take, take_all}
use Rattle.byteorder.specs.Endian.{big_number}
use Rattle.tier_outside.specs.Disk.{DiskMoment, Reads}
use Rattle.tier_outside.specs.DiskMoments.{last, Now}
use Rattle.gate_journal.specs.Journals.{IsRecord, IsBroken, IsClosed, size_at}
use Rattle.gate_journal.specs.Steps.Reading.{IsOpen}
use Rattle.gate_journal.proofs.Records.{same_number, index_drop, index_take}

-- a byte that was read
read_index : (off : ℕ) (d : DiskMoment) (count : ℕ) (old new : List ℕ) → Reads off d count old new
    → (k : ℕ) → k < count → slice_index new k ≡ slice_index d.content (off + k)
read_index off d count old new is k below =
    sym (get_or-take count new k 0 below) ∙ ap (λ xs. slice_index xs k) is.bytes
    ∙ get_or-take count (drop off d.content) k 0 below ∙ index_drop off d.content k

-- the head of a record that lies below a limit
head_size : (gate limit count n : ℕ) (d : DiskMoment) (old new : List ℕ) → length old ≡ 5 → 4 ≤ n
    → gate + 5 ≤ limit → limit ≤ length d.content → Reads gate d count old new
    → size_at (take limit d.content) gate ≡ big_number 4 (take n (drop 1 new))
head_size gate limit count n d old new long some low high is =
    same_number (take n (drop 1 new)) (drop (gate + 1) (take limit d.content)) (λ k below.
    let counted : count ≡ 5 = is.count_is ∙ omega (arith, long) in
    let place : gate + (1 + k) ≡ gate + 1 + k = omega arith in
    index_drop (gate + 1) (take limit d.content) k
    ∙ index_take limit d.content (gate + 1 + k) (omega arith)
    ∙ sym (get_or-take n (drop 1 new) k 0 (omega arith) ∙ index_drop 1 new k
    ∙ read_index gate d count old new is (1 + k) (omega arith) ∙ ap (slice_index d.content) place))

head_open : (gate limit count : ℕ) (d : DiskMoment) (old new : List ℕ) → length old ≡ 5
    → gate < limit → limit ≤ length d.content → Reads gate d count old new → slice_index new 0 ≡ 1
    → slice_index (take limit d.content) gate ≡ 1
head_open gate limit count d old new long low high is opening =
    let some : 0 < count = omega (arith, is.count_is, long) in
    let place : gate ≡ gate + 0 = omega arith in
    index_take limit d.content gate low ∙ ap (slice_index d.content) place
    ∙ sym (read_index gate d count old new is 0 some) ∙ opening

-- it is opening, and its length is the one that was read
pub open_head : (gate limit count n size : ℕ) (a : Option (List DiskMoment)) (old new : List ℕ)
    → length old ≡ 5 → 4 ≤ n → Now a (λ d. limit ≤ length d.content)
    → Now a (λ d. Reads gate d count old new) → slice_index new 0 ≡ 1
    → size ≡ big_number 4 (take n (drop 1 new)) → gate + 5 + size < limit
    → (gate + 5 + size < limit) × Now a (λ d. IsOpen (take limit d.content) gate size)
open_head gate limit count n size None old new long some high is opening read fits = (fits, tt)
open_head gate limit count n size (Some ds) old new long some high is opening read fits = (
  fits,
  record {
    opened = head_open gate limit count (last ds) old new long (omega arith) high is opening;
    size_is =
        head_size gate limit count n (last ds) old new long some (omega arith) high is ∙ sym read;
  },
)

-- it is cut short
pub cut_head : (gate limit count n size : ℕ) (a : Option (List DiskMoment)) (old new : List ℕ)
    → length old ≡ 5 → 4 ≤ n → Now a (λ d. limit ≤ length d.content)
    → Now a (λ d. Reads gate d count old new) → slice_index new 0 ≡ 1
    → size ≡ big_number 4 (take n (drop 1 new)) → gate < limit → limit ≤ gate + 5 + size
    → (gate ≡ gate) × Now a (λ d. IsBroken (take limit d.content) gate)
cut_head gate limit count n size None old new long some high is opening read low short = (refl, tt)
cut_head gate limit count n size (Some ds) old new long some high is opening read low short =
    let bytes : List ℕ = take limit (last ds).content in
    let cut : length bytes ≤ limit = omega (arith, length-take limit (last ds).content) in
    let opened = head_open gate limit count (last ds) old new long low high is opening in
    let shorter : length bytes ≤ gate + 5 + size_at bytes gate =
    elim (cases_lt limit (gate + 5)) [
      | inl below ↦ omega arith
      | inr above ↦ omega (
        arith,
        head_size gate limit count n
            (last ds) old new long some above high is,
      )
    ] in
    (refl, inr (record { opened = opened; short = shorter }))

-- its payload was read, whole
pub whole_record : (gate limit size count : ℕ) (a : Option (List DiskMoment)) (old new : List ℕ)
    → length old ≡ size → length new ≡ size → Now a (λ d. limit ≤ length d.content)
    → gate + 5 + size < limit → Now a (λ d. IsOpen (take limit d.content) gate size)
    → Now a (λ d. Reads (gate + 5) d count old new) → size ≤ count
    → (gate + 5 + length new < limit) × Now a (λ d. IsRecord (take limit d.content) gate new)
whole_record gate limit size count None old new long same high fits opening is most =
    (omega arith, tt)
whole_record gate limit size count (Some ds) old new long same high fits opening is most =
    let c : List ℕ = (last ds).content in
    let counted : count ≡ size = omega (arith, is.count_is) in
    let all : take count new ≡ new = take_all count new (omega arith) in
    let cut : (n : ℕ) → gate + 5 + n ≤ limit
    → take n (drop (gate + 5) (take limit c)) ≡ take n (drop (gate + 5) c) =
    λ n low. cut_part (gate + 5) n limit c low in (
      omega arith,
      record {
        opened = opening.opened;
        size = opening.size_is ∙ sym same;
        body = cut (length new) (omega arith)
            ∙ ap (λ n. take n (drop (gate + 5) c)) (same ∙ sym counted) ∙ sym is.bytes ∙ all;
        followed = omega (arith, length-take limit c);
      },
    )
  where
    cut_part : (at n limit : ℕ) (c : List ℕ) → at + n ≤ limit
        → take n (drop at (take limit c)) ≡ take n (drop at c)
    cut_part at n limit c low =
        let whole : limit ≡ at + (limit - at) = omega arith in
        ap (λ l. take n (drop at (take l c))) whole ∙ ap (take n) (drop-take at (limit - at) c)
        ∙ take-take n (limit - at) (drop at c) (omega arith)

-- a gate that was read as open, or of which nothing came
pub not_closed : (at count : ℕ) (a : Option (List DiskMoment)) (old new : List ℕ) → length old ≡ 1
    → Now a (λ d. Reads at d count old new) → (count ≡ 0) ⊎ (slice_index new 0 ≡ 1)
    → Now a (λ d. ¬ IsClosed d.content at)
not_closed at count None old new long read how = tt
not_closed at count (Some ds) old new long read how = λ closed. impossible closed how
  where
    place : at + 0 ≡ at
    place = omega arith

    impossible : IsClosed (last ds).content at → (count ≡ 0) ⊎ (slice_index new 0 ≡ 1) → ⊥
    impossible closed (inl none) = omega (arith, read.count_is, long, closed.there)
    impossible closed (inr one) =
        closed.closed (ap (slice_index (last ds).content) (sym place)
        ∙ sym (read_index at (last ds) count old new read 0
        (omega (arith, read.count_is, long, closed.there))) ∙ one)
