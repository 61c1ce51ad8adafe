-- Laws of records by place: they stand where the same bytes stand, and one more goes behind them.
use Rattle.std.specs.Prelude.{◌≡◌, ◌≤◌, ◌<◌, ◌+◌, ◌-◌, ◌^◌, ℕ, List, [], ◌∷◌}
use Rattle.std.specs.Prelude.{◌++◌, length, take, drop, slice_index, refl}
use Rattle.std.proofs.Common.{◌∙◌, sym, subst, ap, arith, add-one}
use Rattle.std.proofs.lemmas.List.{ext_get_or, get_or-take, get_or-drop, length-take, length-drop}
use Rattle.std.proofs.lemmas.List.{length-append, get_or_append_left, get_or-append_right}
use Rattle.std.proofs.lemmas.List.{get_or_at, append_assoc}
use Rattle.byteorder.specs.Endian.{big_number, big_bytes}
use Rattle.byteorder.specs.Numbers.{big_number-reads_back, length-bytes_high_first}
use Rattle.gate_journal.specs.Journals.{IsRecord, AreRecords, IsClosed, Spells}
use Rattle.gate_journal.specs.Journals.{behind_gate}

-- the bytes of ys from a place up to another are those of xs
pub record SameBytes (from to : ℕ) (xs ys : List ℕ) : Type 0 where
  pub same : (i : ℕ) → from ≤ i → i < to → slice_index ys i ≡ slice_index xs i

pub same_part : (from to from2 to2 : ℕ) (xs ys : List ℕ) → SameBytes from to xs ys → from ≤ from2
    → to2 ≤ to → SameBytes from2 to2 xs ys
same_part from to from2 to2 xs ys is low high =
    record { same = λ i above below. is.same i (omega arith) (omega arith) }

-- bytes that stand at a place
pub record ThereAt (xs : List ℕ) (at : ℕ) (bytes : List ℕ) : Type 0 where
  pub long : at + length bytes ≤ length xs
  pub bytes_are : (k : ℕ) → k < length bytes → slice_index xs (at + k) ≡ slice_index bytes k

-- the number in the first four bytes goes by these alone
pub same_number : (xs ys : List ℕ) → ((k : ℕ) → k < 4 → slice_index ys k ≡ slice_index xs k)
    → big_number 4 ys ≡ big_number 4 xs
same_number xs ys same =
    let a : slice_index ys 0 ≡ slice_index xs 0 = same 0 (omega arith) in
    let b : slice_index ys 1 ≡ slice_index xs 1 = same 1 (omega arith) in
    let c : slice_index ys 2 ≡ slice_index xs 2 = same 2 (omega arith) in
    let d : slice_index ys 3 ≡ slice_index xs 3 = same 3 (omega arith) in
    omega (arith, a, b, c, d)

pub index_drop : (n : ℕ) (xs : List ℕ) (k : ℕ) → slice_index (drop n xs) k ≡ slice_index xs (n + k)
index_drop n xs k = get_or-drop n xs k 0

-- a part goes by its bytes
pub same_body : (at count : ℕ) (xs ys : List ℕ) → SameBytes at (at + count) xs ys
    → at + count ≤ length xs → at + count ≤ length ys
    → take count (drop at ys) ≡ take count (drop at xs)
same_body at count xs ys is longx longy =
    ext_get_or 0 (take count (drop at ys)) (take count (drop at xs))
    (omega (
      arith,
      length-take count (drop at ys),
      length-take count (drop at xs),
      length-drop at xs,
      length-drop at ys,
    ))
    (λ i below.
    let under : i < count = omega (arith, length-take count (drop at ys), length-drop at ys) in
    get_or-take count (drop at ys) i 0 under ∙ index_drop at ys i
    ∙ is.same (at + i) (omega arith) (omega arith)
    ∙ sym (get_or-take count (drop at xs) i 0 under ∙ index_drop at xs i))

-- a record stands where its bytes stand
pub record_frame : (xs ys : List ℕ) (gate : ℕ) (payload : List ℕ) → IsRecord xs gate payload
    → SameBytes gate (gate + 5 + length payload) xs ys
    → gate + 5 + length payload < length ys → IsRecord ys gate payload
record_frame xs ys gate payload is same long = record {
  opened = same.same gate (omega arith) (omega arith) ∙ is.opened;
  size = same_number (drop (gate + 1) xs) (drop (gate + 1) ys)
      (λ k below. index_drop (gate + 1) ys k ∙ same.same (gate + 1 + k) (omega arith) (omega arith)
      ∙ sym (index_drop (gate + 1) xs k)) ∙ is.size;
  body = same_body (gate + 5) (length payload) xs ys
      (same_part gate (gate + 5 + length payload) (gate + 5) (gate + 5 + length payload) xs ys same
      (omega arith) (omega arith))
      (omega (arith, is.followed)) (omega arith) ∙ is.body;
  followed = long;
}

-- records go upwards
pub records_order : (xs : List ℕ) (gate : ℕ) (payloads : List (List ℕ)) (next : ℕ)
    → AreRecords xs gate payloads next → gate ≤ next
records_order xs gate [] next are = omega (arith, are)
records_order xs gate (payload ∷ payloads) next are =
    omega (arith, records_order xs (gate + 5 + length payload) payloads next are.1)

pub records_frame : (xs ys : List ℕ) (gate : ℕ) (payloads : List (List ℕ)) (next : ℕ)
    → AreRecords xs gate payloads next → SameBytes gate next xs ys → next < length ys
    → AreRecords ys gate payloads next
records_frame xs ys gate [] next are same long = are
records_frame xs ys gate (payload ∷ payloads) next are same long =
    let behind : gate + 5 + length payload ≤ next =
    records_order xs (gate + 5 + length payload) payloads next are.1 in (
      record_frame xs ys gate payload are.0
          (same_part gate next gate (gate + 5 + length payload) xs ys same (omega arith) behind)
          (omega arith),
      records_frame xs ys (gate + 5 + length payload) payloads next are.1
          (same_part gate next (gate + 5 + length payload) next xs ys same (omega arith)
          (omega arith))
          long,
    )

-- one more record behind them
pub records_push : (xs : List ℕ) (gate : ℕ) (payloads : List (List ℕ)) (next : ℕ) (payload : List ℕ)
    → AreRecords xs gate payloads next → IsRecord xs next payload
    → AreRecords xs gate (payloads ++ payload ∷ []) (next + 5 + length payload)
records_push xs gate [] next payload are is =
    (subst (λ n. IsRecord xs n payload) (sym are) is, ap (λ n. n + 5 + length payload) are)
records_push xs gate (p ∷ payloads) next payload are is =
    (are.0, records_push xs (gate + 5 + length p) payloads next payload are.1 is)

-- bytes below an end
pub index_take : (end : ℕ) (xs : List ℕ) (i : ℕ) → i < end
    → slice_index (take end xs) i ≡ slice_index xs i
index_take end xs i below = get_or-take end xs i 0 below

-- a closed gate stands where its byte stands
pub closed_frame : (xs ys : List ℕ) (gate : ℕ) → IsClosed xs gate
    → slice_index ys gate ≡ slice_index xs gate → gate < length ys → IsClosed ys gate
closed_frame xs ys gate is same long =
    record { there = long; closed = λ opening. is.closed (sym same ∙ opening) }

-- what is spelled is spelled where the same bytes stand, whatever the ends are
pub spells_frame : (at end end2 : ℕ) (xs ys : List ℕ) (payloads : List (List ℕ)) (next : ℕ)
    → Spells at end xs payloads next → SameBytes at (next + 1) xs ys
    → next < length ys → next < end2 → Spells at end2 ys payloads next
spells_frame at end end2 xs ys payloads next is same long within =
    let below : next < end = omega (arith, is.gate.there, length-take end xs) in
    let order : at ≤ next = records_order (take end xs) at payloads next is.records in
    let cut : SameBytes at (next + 1) (take end xs) (take end2 ys) =
    record {
      same = λ i above under. index_take end2 ys i (omega arith) ∙ same.same i above under
          ∙ sym (index_take end xs i (omega arith));
    } in
    let longer : next < length (take end2 ys) = omega (arith, length-take end2 ys) in
    record {
      records =
          records_frame (take end xs) (take end2 ys) at payloads next is.records
          (same_part at (next + 1) at next (take end xs) (take end2 ys) cut (omega arith)
          (omega arith)) longer;
      gate = closed_frame (take end xs) (take end2 ys) next is.gate
          (cut.same next order (omega arith)) longer;
    }

-- the parts of a record that is written out
pub length_behind : (payload : List ℕ) → length (behind_gate payload) ≡ length payload + 5
length_behind payload =
    omega (
      arith,
      length-append (big_bytes 4 (length payload) ++ payload) (0 ∷ []),
      length-append (big_bytes 4 (length payload)) payload,
      length-bytes_high_first 4 (length payload),
    )

-- its first four bytes are the length's
size_number : (payload : List ℕ) → length payload < 2 ^ 32
    → big_number 4 (behind_gate payload) ≡ length payload
size_number payload small =
    ap (big_number 4) (append_assoc (big_bytes 4 (length payload)) payload (0 ∷ []))
    ∙ big_number-reads_back 4 (length payload) (payload ++ 0 ∷ []) (omega (arith, small))

-- then the payload's
body_index : (payload : List ℕ) (k : ℕ) → k < length payload
    → slice_index (behind_gate payload) (4 + k) ≡ slice_index payload k
body_index payload k below =
    let size = length-bytes_high_first 4 (length payload) in
    get_or_append_left (big_bytes 4 (length payload) ++ payload) (0 ∷ []) 0 (4 + k)
    (omega (arith, size, length-append (big_bytes 4 (length payload)) payload))
    ∙ get_or-append_right (big_bytes 4 (length payload)) payload 4 (4 + k) 0 size (omega arith)
    ∙ ap (slice_index payload) (minus k)
  where
    minus : (k : ℕ) → 4 + k - 4 ≡ k
    minus k = omega arith

-- and last the closed gate
last_index : (payload : List ℕ) → slice_index (behind_gate payload) (4 + length payload) ≡ 0
last_index payload =
    get_or_at (big_bytes 4 (length payload) ++ payload) 0 [] 0 (4 + length payload)
    (omega (
      arith,
      length-append (big_bytes 4 (length payload)) payload,
      length-bytes_high_first 4 (length payload),
    ))

pub index_cons : (y : ℕ) (ys : List ℕ) (k : ℕ) → slice_index (y ∷ ys) (k + 1) ≡ slice_index ys k
index_cons y ys k = rw add-one refl

-- the bytes behind a gate, below an end
behind_index : (xs : List ℕ) (gate end y : ℕ) (bytes : List ℕ) → ThereAt xs gate (y ∷ bytes)
    → (k : ℕ) → k < length bytes → gate + 1 + k < end
    → slice_index (take end xs) (gate + 1 + k) ≡ slice_index bytes k
behind_index xs gate end y bytes there k below within =
    let place : gate + 1 + k ≡ gate + (k + 1) = omega arith in
    index_take end xs (gate + 1 + k) within ∙ ap (slice_index xs) place
    ∙ there.bytes_are (k + 1) (omega arith) ∙ index_cons y bytes k

-- a record that is written out is a record, and the gate behind it is closed
pub there_record : (xs : List ℕ) (gate : ℕ) (payload : List ℕ) (end : ℕ) → length payload < 2 ^ 32
    → ThereAt xs gate (1 ∷ behind_gate payload) → gate + 6 + length payload ≤ end
    → IsRecord (take end xs) gate payload × IsClosed (take end xs) (gate + 5 + length payload)
there_record xs gate payload end small there within =
    let size : length (behind_gate payload) ≡ length payload + 5 = length_behind payload in
    let long : gate + 6 + length payload ≤ length (take end xs) =
    omega (arith, there.long, size, length-take end xs) in
    let behind = behind_index xs gate end 1 (behind_gate payload) there in
    let first : gate ≡ gate + 0 = omega arith in
    let body_place : (k : ℕ) → gate + 5 + k ≡ gate + 1 + (4 + k) = λ k. omega arith in
    let closed : slice_index (take end xs) (gate + 5 + length payload) ≡ 0 =
    ap (slice_index (take end xs)) (body_place (length payload))
    ∙ behind (4 + length payload) (omega arith) (omega arith) ∙ last_index payload in (
      record {
        opened =
            index_take end xs gate (omega arith) ∙ ap (slice_index xs) first
            ∙ there.bytes_are 0 (omega arith);
        size = same_number (behind_gate payload) (drop (gate + 1) (take end xs))
            (λ k below. index_drop (gate + 1) (take end xs) k
            ∙ behind k (omega arith) (omega arith)) ∙ size_number payload small;
        body = ext_get_or 0 (take (length payload) (drop (gate + 5) (take end xs))) payload
            (omega (
              arith,
              length-take (length payload) (drop (gate + 5) (take end xs)),
              length-drop (gate + 5) (take end xs),
            ))
            (λ k below.
            let under : k < length payload =
            omega (arith, length-take (length payload) (drop (gate + 5) (take end xs))) in
            get_or-take (length payload) (drop (gate + 5) (take end xs)) k 0 under
            ∙ index_drop (gate + 5) (take end xs) k ∙ ap (slice_index (take end xs)) (body_place k)
            ∙ behind (4 + k) (omega arith) (omega arith) ∙ body_index payload k under);
        followed = omega arith;
      },
      record {
        there = omega arith;
        closed =
            λ opening. apart (slice_index (take end xs) (gate + 5 + length payload)) closed opening;
      },
    )
  where
    apart : (n : ℕ) → n ≡ 0 → n ≡ 1 → ⊥
    apart n none one = omega arith

-- a spelling with one more record behind it
pub spells_push : (at end : ℕ) (image : List ℕ) (payloads : List (List ℕ)) (next : ℕ)
    (payload : List ℕ) → AreRecords (take end image) at payloads next
    → IsRecord (take end image) next payload
    → IsClosed (take end image) (next + 5 + length payload)
    → Spells at end image (payloads ++ payload ∷ []) (next + 5 + length payload)
spells_push at end image payloads next payload are is closed =
    record {
      records = records_push (take end image) at payloads next payload are is;
      gate = closed;
    }
