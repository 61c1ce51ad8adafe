-- Each range of bytes of each image has one meaning, and only one.
use Rattle.std.specs.Prelude.{◌≡◌, ◌⊎◌, ◌≤◌, ◌<◌, ◌+◌, ℕ, zero, suc, List, [], ◌∷◌}
use Rattle.std.specs.Prelude.{length, take, drop, slice_index, refl}
use Rattle.std.proofs.Common.{◌∙◌, sym, subst, ap, arith, inl, inr}
use Rattle.std.proofs.lemmas.Bool.{cases_lt, cases_eq}
use Rattle.std.proofs.lemmas.List.{length-take, length-drop}
use Rattle.gate_journal.specs.Journals.{IsRecord, AreRecords, IsClosed, IsBroken, Reading}
use Rattle.gate_journal.specs.Journals.{Spelled, Broken, Means, size_at}

-- no record stands at a gate: it is closed, or it breaks
abbrev pub Stops : List ℕ → ℕ → Type 0
Stops bytes gate = IsClosed bytes gate ⊎ IsBroken bytes gate

no_record : (bytes : List ℕ) (gate : ℕ) (payload : List ℕ) → IsRecord bytes gate payload
    → Stops bytes gate → ⊥
no_record bytes gate payload is (inl closed) = closed.closed is.opened
no_record bytes gate payload is (inr (inl missing)) = omega (arith, is.followed)
no_record bytes gate payload is (inr (inr cut)) = omega (arith, is.followed, is.size, cut.short)

not_both : (bytes : List ℕ) (gate : ℕ) → IsClosed bytes gate → IsBroken bytes gate → ⊥
not_both bytes gate closed (inl missing) = omega (arith, closed.there)
not_both bytes gate closed (inr cut) = closed.closed cut.opened

-- one payload at a gate
same_payload : (bytes : List ℕ) (gate : ℕ) (p q : List ℕ) → IsRecord bytes gate p
    → IsRecord bytes gate q → p ≡ q
same_payload bytes gate p q is so =
    let same : length p ≡ length q = sym is.size ∙ so.size in
    sym is.body ∙ ap (λ n. take n (drop (gate + 5) bytes)) same ∙ so.body

-- one list of records up to where they stop
pub same_records : (bytes : List ℕ) (gate : ℕ) (ps qs : List (List ℕ)) (next last : ℕ)
    → AreRecords bytes gate ps next → Stops bytes next → AreRecords bytes gate qs last
    → Stops bytes last
    → (ps ≡ qs) × (next ≡ last)
same_records bytes gate [] [] next last are stop so end = (refl, sym are ∙ so)
same_records bytes gate [] (q ∷ qs) next last are stop so end =
    absurd (no_record bytes gate q so.0 (subst (Stops bytes) (sym are) stop))
same_records bytes gate (p ∷ ps) [] next last are stop so end =
    absurd (no_record bytes gate p are.0 (subst (Stops bytes) (sym so) end))
same_records bytes gate (p ∷ ps) (q ∷ qs) next last are stop so end =
    let same : q ≡ p = same_payload bytes gate q p so.0 are.0 in
    let rest =
    same_records bytes (gate + 5 + length p) ps qs next last are.1 stop
    (subst (λ x. AreRecords bytes (gate + 5 + length x) qs last) same so.1) end in
    (ap (λ x. x ∷ ps) (sym same) ∙ ap (λ xs. q ∷ xs) rest.0, rest.1)

-- Means is single-valued.
pub one_meaning : (at end : ℕ) (image : List ℕ) (r s : Reading) → Means at end image r
    → Means at end image s → r ≡ s
one_meaning at end image (Spelled ps next) (Spelled qs last) one two =
    let same =
    same_records (take end image) at ps qs next last one.records (inl one.gate) two.records
    (inl two.gate) in
    ap (λ xs. Spelled xs next) same.0 ∙ ap (Spelled qs) same.1
one_meaning at end image (Spelled ps next) (Broken gate) one two =
    let same =
    same_records (take end image) at ps two.payloads next gate one.records
    (inl one.gate) two.records (inr two.broken) in
    absurd (not_both (take end image) gate
    (subst (IsClosed (take end image)) same.1 one.gate) two.broken)
one_meaning at end image (Broken gate) (Spelled qs last) one two =
    let same =
    same_records (take end image) at one.payloads qs gate last one.records
    (inr one.broken) two.records (inl two.gate) in
    absurd (not_both (take end image) last two.gate
    (subst (IsBroken (take end image)) same.1 one.broken))
one_meaning at end image (Broken gate) (Broken other) one two =
    let same =
    same_records (take end image) at one.payloads two.payloads gate other one.records
    (inr one.broken) two.records (inr two.broken) in
    ap Broken same.1

-- records from a gate up to where they stop
pub record Run (bytes : List ℕ) (gate : ℕ) : Type 0 where
  pub payloads : List (List ℕ)
  pub next : ℕ
  pub records : AreRecords bytes gate payloads next
  pub stop : Stops bytes next

-- a whole record and a run behind it
longer_run : (bytes : List ℕ) (gate : ℕ) → slice_index bytes gate ≡ 1
    → gate + 5 + size_at bytes gate < length bytes
    → Run bytes (gate + 5 + length (take (size_at bytes gate) (drop (gate + 5) bytes)))
    → Run bytes gate
longer_run bytes gate opening whole rest =
    let size : ℕ = size_at bytes gate in
    let payload : List ℕ = take size (drop (gate + 5) bytes) in
    let long : length payload ≡ size =
    omega (arith, length-take size (drop (gate + 5) bytes), length-drop (gate + 5) bytes) in
    record {
      payloads = payload ∷ rest.payloads;
      next = rest.next;
      records = (
        record {
          opened = opening;
          size = sym long;
          body = ap (λ n. take n (drop (gate + 5) bytes)) long;
          followed = omega arith;
        },
        rest.records,
      );
      stop = rest.stop;
    }

some_run : (steps : ℕ) (bytes : List ℕ) (gate : ℕ) → length bytes ≤ gate + steps → Run bytes gate
some_run zero bytes gate few =
    record { payloads = []; next = gate; records = refl; stop = inr (inl (omega arith)) }
some_run (suc steps) bytes gate few =
    elim (cases_lt gate (length bytes)) [
      | inr missing ↦ record {
        payloads = [];
        next = gate;
        records = refl;
        stop = inr (inl missing);
      }
      | inl there ↦
          elim (cases_eq (slice_index bytes gate) 1) [
            | inr closed ↦ record {
              payloads = [];
              next = gate;
              records = refl;
              stop = inl (record { there = there; closed = closed });
            }
            | inl opening ↦
                elim (cases_lt (gate + 5 + size_at bytes gate) (length bytes)) [
                  | inr short ↦ record {
                    payloads = [];
                    next = gate;
                    records = refl;
                    stop = inr (inr (record { opened = opening; short = short }));
                  }
                  | inl whole ↦
                      let behind : ℕ =
                      gate + 5 + length (take (size_at bytes gate) (drop (gate + 5) bytes)) in
                      longer_run bytes gate opening whole
                      (some_run steps bytes behind (omega arith))
                ]
          ]
    ]

-- Means is total.
pub some_meaning : (at end : ℕ) (image : List ℕ) → (r : Reading) × Means at end image r
some_meaning at end image =
    let run : Run (take end image) at =
    some_run (length (take end image)) (take end image) at (omega arith) in
    elim run.stop [
      | inl closed ↦ (
        Spelled run.payloads run.next,
        record { records = run.records; gate = closed },
      )
      | inr broken ↦ (
        Broken run.next,
        record { payloads = run.payloads; records = run.records; broken = broken },
      )
    ]
