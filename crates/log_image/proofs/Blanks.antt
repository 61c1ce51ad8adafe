-- What a stop leaves while a blank disk is formatted, and what stands afterwards.
use Rattle.std.specs.Prelude.{◌≡◌, ◌≤◌, ◌<◌, ◌+◌, ◌-◌, ◌^◌, ℕ, Bool, true, false, List, [], ◌∷◌}
use Rattle.std.specs.Prelude.{length, take, drop, slice_index, Option, Some, None, refl}
use Rattle.std.specs.FinMap as fin
use Rattle.std.proofs.Common.{◌∙◌, sym, subst, ap, arith, inl, inr}
use Rattle.std.proofs.lemmas.Bool.{cases_lt, cases_eq}
use Rattle.std.proofs.lemmas.List.{get_or-take, length-take, length-drop}
use Rattle.obj_model.specs.declared.change.Pool.{Pool}
use Rattle.tier_outside.specs.Disk.{DiskMoment, settled, written, StopsIn, IsSettled}
use Rattle.tier_outside.specs.DiskMoments.{last, Now, Then, Leaves}
use Rattle.tier_outside.proofs.DiskImages.{length_written, written_there}
use Rattle.tier_outside.proofs.DiskMoments.{since_weaker, now_both}
use Rattle.gate_journal.specs.Journals.{Spells, behind_gate}
use Rattle.gate_journal.proofs.Adds.{settled_stands}
use Rattle.gate_journal.proofs.Images.{stops_front, stops_behind, stops_within}
use Rattle.gate_journal.proofs.Records.{SameBytes, same_body, ThereAt, there_record, index_drop}
use Rattle.gate_journal.proofs.Records.{index_cons}
use Rattle.gate_journal.proofs.Steps.{leaves_both, leaves_weaker, Put}
use Rattle.gate_journal.proofs.Writes.{written_in, written_behind}
use Rattle.log_image.specs.Images.{HoldsLog, IsHalfOpen, head, no_txns, rest}
use Rattle.log_image.specs.Fronts.{IsUnwritten}
use Rattle.log_image.specs.Standing.{BlankOrNew, LogStands, first_journal}
use Rattle.log_image.specs.Steps.Formatting.{IsZeroed, RestStands}

-- ---- a log without transactions

-- it has 23 bytes
pub rest_long : (role : Pool) (pair : ℕ) (image : List ℕ) → take 22 (drop 1 image) ≡ rest role pair
    → 23 ≤ length image
rest_long role pair image is =
    omega (arith, ap length is, length-take 22 (drop 1 image), length-drop 1 image)

-- the first record stands where its open gate and what is behind it stand
first_there : (role : Pool) (pair : ℕ) (image : List ℕ) → slice_index image 0 ≡ 1
    → take 22 (drop 1 image) ≡ rest role pair → ThereAt image 0 (1 ∷ behind_gate (head role pair))
first_there role pair image opened is =
    record { long = omega (arith, rest_long role pair image is); bytes_are = bytes }
  where
    bytes : (k : ℕ) → k < length (1 ∷ behind_gate (head role pair))
        → slice_index image (0 + k) ≡ slice_index (1 ∷ behind_gate (head role pair)) k
    bytes k below =
        elim (cases_lt k 1) [
          | inl first ↦
              let none : k ≡ 0 = omega arith in
              ap (λ n. slice_index image (0 + n)) none ∙ opened
              ∙ ap (slice_index (1 ∷ behind_gate (head role pair))) (sym none)
          | inr later ↦
              let place : 0 + k ≡ 1 + (k - 1) = omega arith in
              let more : k ≡ k - 1 + 1 = omega arith in
              ap (slice_index image) place ∙ sym (index_drop 1 image (k - 1))
              ∙ sym (get_or-take 22 (drop 1 image) (k - 1) 0 (omega arith))
              ∙ ap (λ xs. slice_index xs (k - 1)) is ∙ sym (index_cons 1 (rest role pair) (k - 1))
              ∙ ap (slice_index (1 ∷ rest role pair)) (sym more)
        ]

first_spelled : (role : Pool) (pair end : ℕ) (image : List ℕ) → slice_index image 0 ≡ 1
    → take 22 (drop 1 image) ≡ rest role pair → 23 ≤ end
    → Spells 0 end image (head role pair ∷ []) 22
first_spelled role pair end image opened is within =
    let parts =
    there_record image 0 (head role pair) end (omega arith)
    (first_there role pair image opened is) (omega arith) in
    record { records = (parts.0, refl); gate = parts.1 }

pub new_log : (role : Pool) (pair : ℕ) (image : List ℕ) → slice_index image 0 ≡ 1
    → take 22 (drop 1 image) ≡ rest role pair → HoldsLog role pair image no_txns
new_log role pair image opened is =
    record {
      payloads = [];
      txns = [];
      next = 22;
      spelled = first_spelled role pair (2 ^ 40) image opened is (omega arith);
      each = tt;
      made = refl;
      used_is = refl;
    }

-- ---- the first gate is closed

apart : false ≡ true → ⊥
apart e = cc

-- a disk that does not begin with a zero has at most a byte
unwritten_short : (zeroed : Bool) (bytes : List ℕ) → zeroed ≡ false → IsUnwritten bytes zeroed
    → length bytes ≤ 1
unwritten_short zeroed bytes none is =
    elim is.blank [
      | inl short ↦ short
      | inr zero ↦
          elim (cases_lt 1 (length bytes)) [
            | inl long ↦ absurd (apart (sym none ∙ is.zero_is.1 (omega arith, zero)))
            | inr short ↦ short
          ]
    ]

pub closing : (zeroed : Bool) (d : DiskMoment) (image : List ℕ) → zeroed ≡ false → IsSettled d
    → IsUnwritten d.content zeroed → StopsIn 0 1 d image → length image ≤ 1
closing zeroed d image none whole unwritten stops =
    let short : length d.content ≤ 1 = unwritten_short zeroed d.content none unwritten in
    let is : StopsIn 0 1 (settled d.content) image = subst (λ x. StopsIn 0 1 x image) whole stops in
    omega (arith, is.no_longer)

pub closed : (d e : DiskMoment) → Put 0 (0 ∷ []) d e → IsZeroed e
closed d e put =
    let now : List ℕ = written 0 (0 ∷ []) d.content in
    subst IsZeroed (sym put.0) record {
      settled = refl;
      some = long d.content;
      zero = written_in 0 (0 ∷ []) d.content 0 (omega arith);
    }
  where
    long : (old : List ℕ) → 0 < length (written 0 (0 ∷ []) old)
    long old = omega (arith, length_written 0 (0 ∷ []) old)

pub still_closed : (zeroed : Bool) (d : DiskMoment) → zeroed ≡ true → IsSettled d
    → IsUnwritten d.content zeroed → IsZeroed d
still_closed zeroed d is whole unwritten =
    let h = unwritten.zero_is.0 is in record { settled = whole; some = h.0; zero = h.1 }

-- ---- what stands behind it is written

pub staging : (d : DiskMoment) (image : List ℕ) → IsZeroed d → StopsIn 1 22 d image
    → slice_index image 0 ≡ 0
staging d image is stops =
    stops_front 1 22 d.content image 0 (omega arith) is.some
    (subst (λ x. StopsIn 1 22 x image) is.settled stops) ∙ is.zero

pub staged : (role : Pool) (pair : ℕ) (d e : DiskMoment) → pair < 2 ^ 64 → IsZeroed d
    → Put 1 (rest role pair) d e → RestStands role pair e
staged role pair d e fits is put =
    let some = is.some in
    subst (RestStands role pair) (sym put.0)
    record {
      settled = refl;
      fits = fits;
      behind = written_there 1 (rest role pair) d.content (omega arith);
    }

pub half_staged : (role : Pool) (pair : ℕ) (d : DiskMoment) → IsSettled d
    → IsHalfOpen role pair d.content → RestStands role pair d
half_staged role pair d whole is = record { settled = whole; fits = is.fits; behind = is.behind }

-- ---- the first gate is opened

pub opening : (role : Pool) (pair : ℕ) (d : DiskMoment) (image : List ℕ) → RestStands role pair d
    → StopsIn 0 1 d image → BlankOrNew role pair image
opening role pair d image is stops =
    let old : List ℕ = d.content in
    let long : 23 ≤ length old = rest_long role pair old is.behind in
    let left : StopsIn 0 1 (settled old) image =
    subst (λ x. StopsIn 0 1 x image) is.settled stops in
    let size : length image ≡ length old = stops_within 0 1 old image (omega arith) left in
    let same : SameBytes 1 (1 + 22) old image =
    record {
      same = λ i above below. stops_behind 0 1 old image i (omega arith)
          (omega arith) left;
    } in
    let behind : take 22 (drop 1 image) ≡ rest role pair =
    same_body 1 22 old image same (omega arith) (omega arith) ∙ is.behind in
    elim (cases_eq (slice_index image 0) 0) [
      | inl zero ↦ inl (inr (inl zero))
      | inr some ↦
          elim (cases_eq (slice_index image 0) 1) [
            | inl one ↦ inr (new_log role pair image one behind)
            | inr other ↦ inl (inr (inr
                (record { fits = is.fits; not_zero = some; not_open = other; behind = behind })))
          ]
    ]

pub opened : (role : Pool) (pair : ℕ) (d e : DiskMoment) → RestStands role pair d
    → Put 0 (1 ∷ []) d e → LogStands role pair first_journal fin.empty e
opened role pair d e is put =
    let old : List ℕ = d.content in
    let now : List ℕ = written 0 (1 ∷ []) old in
    let long : 23 ≤ length old = rest_long role pair old is.behind in
    let size : 23 ≤ length now = omega (arith, length_written 0 (1 ∷ []) old) in
    let same : SameBytes 1 (1 + 22) old now =
    record { same = λ i above below. written_behind 0 (1 ∷ []) old i (omega arith) } in
    let behind : take 22 (drop 1 now) ≡ rest role pair =
    same_body 1 22 old now same (omega arith) (omega arith) ∙ is.behind in
    subst (LogStands role pair first_journal fin.empty) (sym put.0) record {
      payloads = [];
      txns = [];
      stands =
          record {
            settled = settled_stands 0 23 now size;
            spelled =
                first_spelled role pair 23 now (written_in 0 (1 ∷ []) old 0 (omega arith)) behind
                (omega arith);
          };
      each = tt;
      made = refl;
    }

-- ---- calls one after another

-- what is left, where the moment before has P
pub leaves_from : (a b : Option (List DiskMoment)) (P : DiskMoment → Type 0)
    (Q : DiskMoment → List ℕ → Type 0) (R : List ℕ → Type 0) → Now a P
    → ((d : DiskMoment) (image : List ℕ) → P d → Q d image → R image)
    → Leaves a b Q → Leaves a b (λ d image. R image)
leaves_from None b P Q R now weaker left = left
leaves_from (Some ds) b P Q R now weaker left =
    since_weaker (Some ds) b (Q (last ds)) R (λ image q. weaker (last ds) image now q) left

-- what stands afterwards
pub now_from : (a b : Option (List DiskMoment)) (P : DiskMoment → Type 0)
    (Q : DiskMoment → List ℕ → Type 0) (S : DiskMoment → DiskMoment → Type 0)
    (R : DiskMoment → Type 0) → Leaves a b Q → Now a P → Then a b S
    → ((d e : DiskMoment) → P d → S d e → R e) → Now b R
now_from None b P Q S R left now done follows = subst (λ ms. Now ms R) (sym left.grew) tt
now_from (Some ds) None P Q S R left now done follows = tt
now_from (Some ds) (Some es) P Q S R left now done follows = follows (last ds) (last es) now done

-- two calls that leave only what has Q
pub leaves_on : (a b c : Option (List DiskMoment)) (Q : List ℕ → Type 0)
    → Leaves a b (λ d image. Q image) → Leaves b c (λ d image. Q image)
    → Leaves a c (λ d image. Q image)
leaves_on a b c Q first second =
    leaves_both a b c (λ d image. Q image) (λ d image. Q image) (λ d e. Unit {0}) first
    (anything a b) second (λ d e image any left. left)
  where
    anything : (a b : Option (List DiskMoment)) → Then a b (λ d e. Unit {0})
    anything None b = tt
    anything (Some ds) None = tt
    anything (Some ds) (Some es) = tt

-- the parts of what is left while a blank disk is formatted
pub short_left : (role : Pool) (pair : ℕ) (a b : Option (List DiskMoment))
    → Leaves a b (λ d image. length image ≤ 1) → Leaves a b (λ d image. BlankOrNew role pair image)
short_left role pair a b left =
    leaves_weaker a b (λ d image. length image ≤ 1) (λ d image. BlankOrNew role pair image)
    (λ d image short. inl (inl short)) left

pub zero_left : (role : Pool) (pair : ℕ) (a b : Option (List DiskMoment))
    → Leaves a b (λ d image. slice_index image 0 ≡ 0)
    → Leaves a b (λ d image. BlankOrNew role pair image)
zero_left role pair a b left =
    leaves_weaker a b (λ d image. slice_index image 0 ≡ 0) (λ d image. BlankOrNew role pair image)
    (λ d image zero. inl (inr (inl zero))) left

-- ---- the calls

-- the first gate was written, on a disk of at most a byte
pub close_leaves : (zeroed : Bool) (a b : Option (List DiskMoment)) → zeroed ≡ false
    → Now a IsSettled → Now a (λ d. IsUnwritten d.content zeroed) → Leaves a b (StopsIn 0 1)
    → Leaves a b (λ d image. length image ≤ 1)
close_leaves zeroed a b none whole unwritten left =
    leaves_from a b (λ d. IsSettled d × IsUnwritten d.content zeroed) (StopsIn 0 1)
    (λ image. length image ≤ 1) (now_both a IsSettled
    (λ d. IsUnwritten d.content zeroed) whole unwritten)
    (λ d image is stops. closing zeroed d image none is.0 is.1 stops) left

-- what stands behind it was written
pub stage_leaves : (role : Pool) (pair : ℕ) (bytes : List ℕ) (a b : Option (List DiskMoment))
    → bytes ≡ rest role pair → Now a IsZeroed → Leaves a b (StopsIn 1 (length bytes))
    → Leaves a b (λ d image. slice_index image 0 ≡ 0)
stage_leaves role pair bytes a b same now left =
    leaves_from a b IsZeroed (StopsIn 1 22) (λ image. slice_index image 0 ≡ 0) now staging
    (subst (λ xs. Leaves a b (StopsIn 1 (length xs))) same left)

pub stage_done : (role : Pool) (pair : ℕ) (bytes : List ℕ) (a b : Option (List DiskMoment))
    → bytes ≡ rest role pair → pair < 2 ^ 64 → Now a IsZeroed
    → Leaves a b (StopsIn 1 (length bytes)) → Then a b (Put 1 bytes)
    → Now b (RestStands role pair)
stage_done role pair bytes a b same fits now left done =
    now_from a b IsZeroed (StopsIn 1 (length bytes)) (Put 1 (rest role pair))
    (RestStands role pair) left now (subst (λ xs. Then a b (Put 1 xs)) same done)
    (λ d e is put. staged role pair d e fits is put)

-- the first gate was written again, over all that stands behind it
pub open_leaves : (role : Pool) (pair : ℕ) (a b : Option (List DiskMoment))
    → Now a (RestStands role pair) → Leaves a b (StopsIn 0 1)
    → Leaves a b (λ d image. BlankOrNew role pair image)
open_leaves role pair a b now left =
    leaves_from a b (RestStands role pair) (StopsIn 0 1) (BlankOrNew role pair) now
    (opening role pair) left

pub open_done : (role : Pool) (pair : ℕ) (a b : Option (List DiskMoment))
    → Now a (RestStands role pair) → Leaves a b (StopsIn 0 1) → Then a b (Put 0 (1 ∷ []))
    → Now b (LogStands role pair first_journal fin.empty)
open_done role pair a b now left done =
    now_from a b (RestStands role pair) (StopsIn 0 1) (Put 0 (1 ∷ []))
    (LogStands role pair first_journal fin.empty) left now done (opened role pair)

-- the first two steps of formatting
pub staged_left : (role : Pool) (pair : ℕ) (a b c : Option (List DiskMoment))
    → Leaves a b (λ d image. length image ≤ 1) → Leaves b c (λ d image. slice_index image 0 ≡ 0)
    → Leaves a c (λ d image. BlankOrNew role pair image)
staged_left role pair a b c first second =
    leaves_on a b c (BlankOrNew role pair) (short_left role pair a b first)
    (zero_left role pair b c second)
