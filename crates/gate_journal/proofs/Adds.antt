-- What stands of a journal, and what a stop leaves of it, while a record is added.
use Rattle.std.specs.Prelude.{◌≡◌, ◌⊎◌, ◌≤◌, ◌<◌, ◌+◌, ◌-◌, ◌^◌, ℕ, List, [], ◌∷◌, ◌++◌}
use Rattle.std.specs.Prelude.{length, take, slice_index, false, ◌&&◌, nat_le, nat_lt}
use Rattle.std.specs.Prelude.{refl}
use Rattle.std.proofs.Common.{◌∙◌, sym, subst, ap, arith, inl, inr}
use Rattle.std.proofs.lemmas.Bool.{cases_lt, cases_eq}
use Rattle.std.proofs.lemmas.Bool.Decides.{nat_tests}
use Rattle.std.proofs.lemmas.List.{length-take}
use Rattle.tier_outside.specs.Disk.{DiskMoment, settled, written, RangeStands, StopsIn}
use Rattle.gate_journal.specs.declared.journal.Journal.{Journal}
use Rattle.gate_journal.specs.Journals.{AreRecords, Spells, behind_gate}
use Rattle.gate_journal.specs.Stands.{StandsAs, HoldsWithOrWithout, longer, recorded}
use Rattle.gate_journal.specs.Steps.Writing.{AddStops, staged, opened}
use Rattle.gate_journal.proofs.Images.{untouched_more, stops_wider, stops_again, stops_front}
use Rattle.gate_journal.proofs.Images.{stops_behind, stops_within}
use Rattle.gate_journal.proofs.Records.{SameBytes, ThereAt, index_take, index_cons}
use Rattle.gate_journal.proofs.Records.{records_frame, spells_frame, spells_push}
use Rattle.gate_journal.proofs.Records.{there_record, length_behind}
use Rattle.gate_journal.proofs.Writes.{written_in, written_front, opened_there}
use Rattle.gate_journal.proofs.Writes.{opened_once}
use Rattle.tier_outside.proofs.DiskImages.{length_written}

-- settled bytes in front of the range of a write
stops_same : (from to off count : ℕ) (d : DiskMoment) (image : List ℕ) → RangeStands from to d
    → to ≤ off → StopsIn off count d image → SameBytes from to d.stable image
stops_same from to off count d image stands front is = record {
  same = λ i above below.
      is.kept i (omega (arith, stands.within))
      (untouched_more d.touched (off, off + count) i (stands.untouched i above below)
      (apart off count i (omega arith)));
}
  where
    apart : (off count i : ℕ) → i < off → (nat_le off i && nat_lt i (off + count)) ≡ false
    apart off count i low = grind (arith, nat_tests)

-- records stand where the same bytes stand, below any end
records_in : (at end end2 next : ℕ) (xs ys : List ℕ) (payloads : List (List ℕ))
    → AreRecords (take end xs) at payloads next → next < end → SameBytes at next xs ys
    → next < length ys
    → next < end2 → AreRecords (take end2 ys) at payloads next
records_in at end end2 next xs ys payloads are low same long low2 =
    let cut : SameBytes at next (take end xs) (take end2 ys) =
    record {
      same = λ i above below. index_take end2 ys i (omega arith) ∙ same.same i above below
          ∙ sym (index_take end xs i (omega arith));
    } in
    records_frame (take end xs) (take end2 ys) at payloads next are cut
    (omega (arith, length-take end2 ys))

-- one more record that is written out behind them
pub spelled_more : (at gate end : ℕ) (xs : List ℕ) (payloads : List (List ℕ)) (payload : List ℕ)
    → length payload < 2 ^ 32 → AreRecords (take end xs) at payloads gate
    → ThereAt xs gate (1 ∷ behind_gate payload) → gate + 6 + length payload ≤ end
    → Spells at end xs (payloads ++ payload ∷ []) (gate + 5 + length payload)
spelled_more at gate end xs payloads payload small are there fits =
    let parts = there_record xs gate payload end small there fits in
    spells_push at end xs payloads gate payload are parts.0 parts.1

-- the parts of a body as a list that is not empty
abbrev Body : List ℕ → Type 0
Body body = (b : ℕ) × (rest : List ℕ) × (body ≡ b ∷ rest)

body_parts : (payload : List ℕ) → Body (behind_gate payload)
body_parts payload = parts (behind_gate payload) (omega (arith, length_behind payload))
  where
    parts : (body : List ℕ) → 0 < length body → Body body
    parts [] long = absurd (omega arith)
    parts (b ∷ rest) long = (b, rest, refl)

pub there_opened : (gate : ℕ) (payload old : List ℕ)
    → ThereAt (opened gate (behind_gate payload) old) gate (1 ∷ behind_gate payload)
there_opened gate payload old =
    let parts = body_parts payload in
    subst (λ body. ThereAt (opened gate body old) gate (1 ∷ body)) (sym parts.2)
    (opened_there gate parts.0 parts.1 old)

pub once_opened : (gate : ℕ) (payload old : List ℕ)
    → opened gate (behind_gate payload) old ≡ recorded gate payload old
once_opened gate payload old =
    let parts = body_parts payload in
    subst (λ body. opened gate body old ≡ written gate (1 ∷ body) old) (sym parts.2)
    (opened_once gate parts.0 parts.1 old)

length_staged : (gate : ℕ) (payload old : List ℕ)
    → gate + 6 + length payload ≤ length (staged gate (behind_gate payload) old)
length_staged gate payload old =
    omega (
      arith,
      written_long (gate + 1) (behind_gate payload) old
          (omega (arith, length_behind payload)),
      length_behind payload,
    )
  where
    written_long : (off : ℕ) (bytes old : List ℕ) → 0 < length bytes
        → off + length bytes ≤ length (written off bytes old)
    written_long off bytes old some = grind (arith, nat_tests, length_written off bytes old)

-- A stop while the gate is written leaves a closed gate, or the record.
gate_stops : (start gate end : ℕ) (payloads : List (List ℕ)) (payload old stable image : List ℕ)
    → length payload < 2 ^ 32 → AreRecords (take (gate + 1) stable) start payloads gate
    → SameBytes start (gate + 1) stable (staged gate (behind_gate payload) old)
    → StopsIn gate 1 (settled (staged gate (behind_gate payload) old)) image
    → gate + 6 + length payload ≤ end
    → Spells start end image payloads gate
    ⊎ Spells start end image (payloads ++ payload ∷ []) (gate + 5 + length payload)
gate_stops start gate end payloads payload old stable image small are same is fits =
    let there : List ℕ = staged gate (behind_gate payload) old in
    let long : gate + 6 + length payload ≤ length there = length_staged gate payload old in
    let size : length image ≡ length there = stops_within gate 1 there image (omega arith) is in
    let front : SameBytes start gate stable image =
    record {
      same = λ i above below. stops_front gate 1 there image i below (omega arith) is
          ∙ same.same i above (omega arith);
    } in
    let before : AreRecords (take end image) start payloads gate =
    records_in start (gate + 1) end gate stable image payloads are (omega arith) front
    (omega arith) (omega arith) in
    elim (cases_eq (slice_index image gate) 1) [
      | inl opening ↦ inr (spelled_more start gate end image payloads payload small before
          (record { long = omega (arith, length_behind payload); bytes_are = bytes opening }) fits)
      | inr closed ↦ inl (record {
        records = before;
        gate = record {
          there = omega (arith, length-take end image);
          closed = λ one. closed (sym (index_take end image gate (omega arith)) ∙ one);
        };
      })
    ]
  where
    bytes : slice_index image gate ≡ 1 → (k : ℕ) → k < length (1 ∷ behind_gate payload)
        → slice_index image (gate + k) ≡ slice_index (1 ∷ behind_gate payload) k
    bytes opening k below =
        let there : List ℕ = staged gate (behind_gate payload) old in
        let long : gate + 6 + length payload ≤ length there = length_staged gate payload old in
        elim (cases_lt k 1) [
          | inl first ↦
              let none : k ≡ 0 = omega arith in
              let place : gate + 0 ≡ gate = omega arith in
              ap (λ n. slice_index image (gate + n)) none ∙ ap (slice_index image) place ∙ opening
              ∙ ap (slice_index (1 ∷ behind_gate payload)) (sym none)
          | inr later ↦
              let place : gate + k ≡ gate + 1 + (k - 1) = omega arith in
              let more : k ≡ k - 1 + 1 = omega arith in
              stops_behind gate 1 there image (gate + k) (omega arith)
              (omega (arith, length_behind payload)) is ∙ ap (slice_index there) place
              ∙ written_in (gate + 1) (behind_gate payload) old (k - 1) (omega arith)
              ∙ sym (index_cons 1 (behind_gate payload) (k - 1))
              ∙ ap (slice_index (1 ∷ behind_gate payload)) (sym more)
        ]

-- A stop while a record is added behind a journal that stands leaves its payloads, with the new one
-- or without.
pub with_or_without : (journal : Journal) (payloads : List (List ℕ)) (payload : List ℕ)
    (d : DiskMoment) (image : List ℕ) → length payload < 2 ^ 32
    → journal.next + 6 + length payload ≤ journal.end
    → StandsAs journal payloads d → AddStops journal.next (behind_gate payload) d image
    → HoldsWithOrWithout journal payloads payload image
with_or_without journal payloads payload d image small fits stands (inl stops) =
    let same =
    stops_same journal.start (journal.next + 1) (journal.next + 1)
    (length (behind_gate payload)) d image stands.settled (omega arith) stops in
    inl (spells_frame journal.start
    (journal.next + 1) journal.end d.stable image payloads journal.next stands.spelled same
    (omega (arith, stops.no_shorter, stands.settled.within)) (omega arith))
with_or_without journal payloads payload d image small fits stands (inr opening) =
    let there : List ℕ = staged journal.next (behind_gate payload) d.content in
    let same =
    stops_same journal.start (journal.next + 1) (journal.next + 1)
    (length (behind_gate payload)) d there stands.settled (omega arith) opening.0 in
    gate_stops journal.start journal.next journal.end payloads payload d.content d.stable image
    small stands.spelled.records same opening.1 fits

-- all that is settled stands
pub settled_stands : (from to : ℕ) (bytes : List ℕ) → to ≤ length bytes
    → RangeStands from to (settled bytes)
settled_stands from to bytes long =
    record { there = long; within = long; untouched = λ i above below. refl }

-- after the add the longer journal stands
pub stands_added : (journal : Journal) (payloads : List (List ℕ)) (payload : List ℕ)
    (d e : DiskMoment) → length payload < 2 ^ 32 → StandsAs journal payloads d
    → StopsIn (journal.next + 1) (length (behind_gate payload)) d
    (staged journal.next (behind_gate payload) d.content)
    → e ≡ settled (opened journal.next (behind_gate payload) d.content)
    → StandsAs (longer journal payload) (payloads ++ payload ∷ []) e
stands_added journal payloads payload d e small stands stops is =
    let gate : ℕ = journal.next in
    let body : List ℕ = behind_gate payload in
    let now : List ℕ = opened gate body d.content in
    let there : ThereAt now gate (1 ∷ body) = there_opened gate payload d.content in
    let long : gate + 6 + length payload ≤ length now =
    omega (arith, there.long, length_behind payload) in
    let before =
    stops_same journal.start (gate + 1) (gate + 1) (length body) d
    (staged gate body d.content) stands.settled (omega arith) stops in
    let front : SameBytes journal.start gate d.stable now =
    record {
      same = λ i above below. written_front gate (1 ∷ [])
          (staged gate body d.content) i below ∙ before.same i above (omega arith);
    } in
    let records : AreRecords (take (gate + 5 + length payload + 1) now) journal.start payloads
    gate =
    records_in journal.start (gate + 1)
    (gate + 5 + length payload + 1) gate d.stable now payloads stands.spelled.records
    (omega arith) front (omega arith) (omega arith) in
    subst (λ x. StandsAs (longer journal payload) (payloads ++ payload ∷ []) x) (sym is) record {
      settled = settled_stands journal.start (gate + 5 + length payload + 1) now (omega arith);
      spelled =
          spelled_more journal.start gate
          (gate + 5 + length payload + 1) now payloads payload small records there (omega arith);
    }

-- outside of the record nothing is touched
pub add_outside : (gate : ℕ) (payload : List ℕ) (d : DiskMoment) (image : List ℕ)
    → AddStops gate (behind_gate payload) d image → StopsIn gate (length payload + 6) d image
add_outside gate payload d image (inl stops) =
    stops_wider (gate + 1) (length (behind_gate payload)) gate (length payload + 6) d image
    (omega arith) (omega (arith, length_behind payload)) stops
add_outside gate payload d image (inr opening) =
    let there : List ℕ = staged gate (behind_gate payload) d.content in
    stops_again gate (length payload + 6) d there image
    (stops_wider (gate + 1) (length (behind_gate payload)) gate (length payload + 6) d there
    (omega arith) (omega (arith, length_behind payload)) opening.0)
    (stops_wider gate 1 gate (length payload + 6) (settled there) image (omega arith)
    (omega arith) opening.1)
