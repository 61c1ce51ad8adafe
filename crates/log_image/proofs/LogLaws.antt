-- Laws of what the bytes of a disk mean as a log.
use Rattle.std.specs.Prelude.{◌≡◌, ◌≤◌, ◌<◌, ◌+◌, ◌^◌, ℕ, List, [], ◌∷◌, ◌++◌, length, take, drop}
use Rattle.std.specs.Prelude.{slice_index, Option, Some, None, refl}
use Rattle.std.specs.FinMap as fin
use Rattle.std.proofs.Common.{◌∙◌, sym, subst, ap, arith, inl, inr}
use Rattle.std.proofs.lemmas.List.{length-take, length-drop}
use Rattle.byteorder.specs.Endian.{big_bytes, big_number}
use Rattle.byteorder.specs.Numbers.{big_from-take, big_number-reads_back}
use Rattle.obj_model.specs.declared.change.Change.{Change}
use Rattle.obj_model.specs.declared.change.Pool.{Pool}
use Rattle.gate_journal.specs.Journals.{Reading, Spelled, Broken}
use Rattle.gate_journal.proofs.Laws.{one_meaning}
use Rattle.gate_journal.proofs.Records.{index_take}
use Rattle.rec_codec.specs.Spelling.{SpellsTxn}
use Rattle.rec_codec.proofs.TxnLaws.{txns_apart}
use Rattle.store_face.specs.Views.{Durable}
use Rattle.log_image.specs.Images.{AreTxns, HoldsLog, head, made_by}
use Rattle.log_image.specs.Fronts.{IsBad, IsHeaded, HasNoTxn, head_fault}
use Rattle.log_image.proofs.Places.{cut_part, inner_part}
use Rattle.log_image.proofs.Heads.{Passes, passes_head, first_size}
use Rattle.log_image.proofs.Looks.{is_used}

-- four bytes that make 17
size_bytes : (xs : List ℕ) → 4 ≤ length xs → big_number 4 xs ≡ 17 → take 4 xs ≡ big_bytes 4 17
size_bytes [] long is = absurd (omega arith)
size_bytes (a ∷ []) long is = absurd (omega arith)
size_bytes (a ∷ b ∷ []) long is = absurd (omega arith)
size_bytes (a ∷ b ∷ c ∷ []) long is = absurd (omega arith)
size_bytes (a ∷ b ∷ c ∷ d ∷ xs) long is =
    let none_a : a ≡ 0 = omega arith in
    let none_b : b ≡ 0 = omega arith in
    let none_c : c ≡ 0 = omega arith in
    let all_d : d ≡ 17 = omega arith in
    rw (none_a, none_b, none_c, all_d) refl

-- A log has the head of its pool and pair, and no empty disk holds one.
pub a_log_is_headed : (role : Pool) (pair : ℕ) (image : List ℕ) (log : Durable)
    → HoldsLog role pair image log → pair < 2 ^ 64 → IsHeaded role pair image
a_log_is_headed role pair image log holds fits =
    let first = holds.spelled.records.0 in
    let long : 23 ≤ length image = omega (arith, first.followed, length-take (2 ^ 40) image) in
    let opened : slice_index image 0 ≡ 1 =
    sym (index_take (2 ^ 40) image 0 (omega arith)) ∙ first.opened in
    let body : take 17 (drop 5 image) ≡ head role pair =
    sym (cut_part 5 17 (2 ^ 40) image (omega arith)) ∙ first.body in
    let number : big_number 4 (drop 1 image) ≡ 17 =
    sym (big_from-take 0 4 4 (drop 1 image) (omega arith))
    ∙ sym (first_size (2 ^ 40) image (omega arith)) ∙ first.size in
    let bytes : take 8 (drop 14 image) ≡ big_bytes 8 pair =
    inner_part 5 17 9 8 image (head role pair) body (omega arith) in
    let passes : Passes role image =
    record {
      opened = opened;
      size = size_bytes (drop 1 image) (omega (arith, length-drop 1 image)) number;
      magic = inner_part 5 17 0 8 image (head role pair) body (omega arith);
      pool = inner_part 5 17 8 1 image (head role pair) body (omega arith);
      long = omega arith;
    } in
    record {
      used = is_used role image (omega arith) (λ zero. apart (slice_index image 0) opened zero)
          (inl opened);
      tested = passes_head role image passes;
      pair_is =
          sym (big_from-take 0 8 8 (drop 14 image) (omega arith)) ∙ ap (big_number 8) bytes
          ∙ big_number-reads_back 8 pair [] (omega arith);
      pair_bytes = bytes;
    }
  where
    apart : (n : ℕ) → n ≡ 1 → n ≡ 0 → ⊥
    apart n one zero = omega arith

-- ---- one log

same_txns : (payloads : List (List ℕ)) (ts us : List (List Change)) → AreTxns payloads ts
    → AreTxns payloads us → ts ≡ us
same_txns [] [] [] one two = refl
same_txns [] [] (u ∷ us) one two = absurd two
same_txns [] (t ∷ ts) us one two = absurd one
same_txns (p ∷ ps) [] us one two = absurd one
same_txns (p ∷ ps) (t ∷ ts) [] one two = absurd two
same_txns (p ∷ ps) (t ∷ ts) (u ∷ us) one two =
    let first : t ≡ u = (txns_apart t u p p [] [] one.0 two.0 refl).0 in
    ap (λ x. x ∷ ts) first ∙ ap (λ xs. u ∷ xs) (same_txns ps ts us one.1 two.1)

same_spelled : (x y : List ℕ) (ps qs : List (List ℕ)) (m n : ℕ)
    → ◌≡◌ {A = Reading} (Spelled (x ∷ ps) m) (Spelled (y ∷ qs) n) → (ps ≡ qs) × (m ≡ n)
same_spelled x y ps qs m n e = (cc, cc)

-- The bytes hold one log of a pool and a pair.
pub one_log : (role : Pool) (pair : ℕ) (image : List ℕ) (l m : Durable) → HoldsLog role pair image l
    → HoldsLog role pair image m → l ≡ m
one_log role pair image l m one two =
    let same =
    same_spelled (head role pair) (head role pair) one.payloads two.payloads one.next two.next
    (one_meaning 0 (2 ^ 40) image (Spelled (head role pair ∷ one.payloads) one.next)
    (Spelled (head role pair ∷ two.payloads) two.next) one.spelled two.spelled) in
    let txns : one.txns ≡ two.txns =
    same_txns two.payloads one.txns two.txns
    (subst (λ ps. AreTxns ps one.txns) same.0 one.each) two.each in
    both (one.made ∙ ap (made_by fin.empty) txns ∙ sym two.made)
    (one.used_is ∙ ap (λ n. n + 1) same.1 ∙ sym two.used_is)
  where
    both : l.table ≡ m.table → l.used ≡ m.used → l ≡ m
    both tables uses =
        ap (λ t. record { table = t; used = l.used }) tables
        ∙ ap (λ n. record { table = m.table; used = n }) uses

-- ---- no log is refused

-- each payload of a log is a transaction
one_txn : (before : List (List ℕ)) (payload : List ℕ) (behind : List (List ℕ))
    (ts : List (List Change)) → AreTxns (before ++ payload ∷ behind) ts
    → (txn : List Change) × SpellsTxn payload txn
one_txn [] payload behind [] each = absurd each
one_txn [] payload behind (t ∷ ts) each = (t, each.0)
one_txn (p ∷ ps) payload behind [] each = absurd each
one_txn (p ∷ ps) payload behind (t ∷ ts) each = one_txn ps payload behind ts each.1

has_txns : (role : Pool) (pair : ℕ) (image : List ℕ) (log : Durable) (at : ℕ)
    → HoldsLog role pair image log → HasNoTxn image at → ⊥
has_txns role pair image log at holds lacks =
    let same =
    same_spelled (head role pair) lacks.first holds.payloads
    (lacks.before ++ lacks.payload ∷ lacks.behind) holds.next lacks.next
    (one_meaning 0 (2 ^ 40) image (Spelled (head role pair ∷ holds.payloads) holds.next)
    (Spelled (lacks.first ∷ (lacks.before ++ lacks.payload ∷ lacks.behind)) lacks.next)
    holds.spelled lacks.spelled) in
    let found =
    one_txn lacks.before lacks.payload lacks.behind holds.txns
    (subst (λ ps. AreTxns ps holds.txns) same.0 holds.each) in
    lacks.none found.0 found.1

-- A log of a pool and a pair is not refused as none of these.
pub a_log_is_not_refused : (role : Pool) (pair : ℕ) (image : List ℕ) (log : Durable) (at : ℕ)
    → HoldsLog role pair image log → pair < 2 ^ 64 → IsBad role pair image at → ⊥
a_log_is_not_refused role pair image log at holds fits (inl misheaded) =
    apart (head_fault role image)
    (a_log_is_headed role pair image log holds fits).tested misheaded.failed
  where
    apart : (o : Option ℕ) → o ≡ None → o ≡ Some at → ⊥
    apart o none some = cc
a_log_is_not_refused role pair image log at holds fits (inr (headed, inl broken)) =
    impossible (one_meaning 0 (2 ^ 40) image (Spelled (head role pair ∷ holds.payloads) holds.next)
    (Broken at) holds.spelled broken)
  where
    impossible : ◌≡◌ {A = Reading} (Spelled (head role pair ∷ holds.payloads) holds.next)
        (Broken at) → ⊥
    impossible e = cc
a_log_is_not_refused role pair image log at holds fits (inr (headed, inr lacks)) =
    has_txns role pair image log at holds lacks
