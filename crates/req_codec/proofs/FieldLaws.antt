-- Fields: what is taken is spelled so, and what is spelled so is taken, for each shape of fields.
use Rattle.std.proofs.Common.{◌≡◌, ℕ, ◌^◌, ◌<◌, true, cond, leb, eqb, List, [], ◌∷◌, ◌++◌, length, Option, Some, None, refl, ap, subst, ◌∙◌, arith, inl, inr}
use Rattle.std.specs.List.{AllByRecursion}
use Rattle.std.proofs.lemmas.Bool.{eqb-true, leb-true, le-leb}
use Rattle.byteorder.specs.Endian.{big_bytes}
use Rattle.obj_model.specs.Fields.{Field, Number, Bytes, Key, After}
use Rattle.obj_model.specs.Names.{name_fault}
use Rattle.rec_codec.specs.Spelling.{name, string, field, field_bytes, IsField}
use Rattle.rec_codec.specs.Reading.{Reader, then_at, as_at, number_at, name_at}
use Rattle.rec_codec.proofs.Readers.{IsBytes, some_bind, some_is, bind_is, Took, IsReader, then_reads, also_reads}
use Rattle.rec_codec.proofs.BlockLaws.{byte_reads, u64_reads, string_reads, name_reads}
use Rattle.rec_codec.proofs.ReplyLaws.{chosen, no_value}
use Rattle.req_codec.specs.Reading.{nothing_at, word_at, text_at, words_at, word_text_at, key_text_at, after_behind, after_at, after_word_at}

-- a reader of what fields of this shape spell
abbrev pub ReadsFields : {A : Type 0} → Reader A → (A → List Field) → Type 0
ReadsFields {A} read shape = IsReader read (λ (a : A). field_bytes (shape a)) (λ (a : A). AllByRecursion IsField (shape a))

-- ---- the shapes

abbrev pub no_fields : Unit {0} → List Field
no_fields u = []

abbrev pub number : ℕ → List Field
number n = Number n ∷ []

abbrev pub bytes : List ℕ → List Field
bytes b = Bytes b ∷ []

abbrev pub key : List ℕ → List Field
key k = Key k ∷ []

abbrev pub after : Option (List ℕ) → List Field
after a = After a ∷ []

abbrev pub numbers : ℕ × ℕ → List Field
numbers p = Number p.0 ∷ Number p.1 ∷ []

abbrev pub number_bytes : ℕ × List ℕ → List Field
number_bytes p = Number p.0 ∷ Bytes p.1 ∷ []

abbrev pub key_bytes : List ℕ × List ℕ → List Field
key_bytes p = Key p.0 ∷ Bytes p.1 ∷ []

abbrev pub after_number : Option (List ℕ) × ℕ → List Field
after_number p = After p.0 ∷ Number p.1 ∷ []

-- ---- one field

pub nothing_reads : ReadsFields nothing_at no_fields
nothing_reads = record {
  takes = λ bytes x rest fits e.
      subst (λ (y : Unit {0} × List ℕ). Took (λ (u : Unit {0}). []) (λ (u : Unit {0}). Unit {0}) bytes y.0 y.1) (some_is (tt, bytes) (x, rest) e)
      (record { parts = refl; rest_fits = fits; lawful = tt });
  again = λ x rest lawful. refl;
}

pub number_reads : ReadsFields word_at number
number_reads = also_reads (number_at 8) (big_bytes 8) (λ n. field_bytes (number n)) (λ x. x < 256 ^ 8) (λ n. AllByRecursion IsField (number n)) u64_reads (λ n. refl) (λ n h. (h, tt)) (λ n h. h.0)

pub bytes_reads : ReadsFields text_at bytes
bytes_reads = also_reads text_at string (λ b. field_bytes (bytes b)) (λ b. (length b < 256 ^ 4) × (leb (length b) 16777216 ≡ true)) (λ b. AllByRecursion IsField (bytes b)) (string_reads 16777216) (λ b. refl)
    (λ b h. (leb-true _ _ h.1, tt)) (λ b h. let few = h.0 in (omega arith, le-leb _ _ few))

pub key_reads : ReadsFields name_at key
key_reads = also_reads name_at name (λ k. field_bytes (key k)) (λ k. name_fault k ≡ None) (λ k. AllByRecursion IsField (key k)) name_reads (λ k. refl) (λ k h. (h, tt)) (λ k h. h.0)

-- ---- the key to go on from

after_takes : (bytes : List ℕ) (x : Option (List ℕ)) (rest : List ℕ) → IsBytes bytes → after_at bytes ≡ Some (x, rest) → Took (λ a. field (After a)) (λ a. IsField (After a)) bytes x rest
unfolding after_at
after_takes bytes x rest fits e =
    let a = some_bind (number_at 1 bytes) (λ a. after_behind a.0 a.1) (x, rest) e in
    let t = byte_reads.takes bytes a.0.0 a.0.1 fits a.1 in
    elim (chosen (eqb a.0.0 0) (Some (None, a.0.1)) (cond (eqb a.0.0 1) (as_at name_at Some a.0.1) None) (Some (x, rest)) a.2) [
      | inl h ↦ subst (λ (y : Option (List ℕ) × List ℕ). Took (λ a. field (After a)) (λ a. IsField (After a)) bytes y.0 y.1) (some_is (None, a.0.1) (x, rest) h.1)
          (record { parts = t.parts ∙ ap (λ (n : ℕ). big_bytes 1 n ++ a.0.1) (eqb-true _ _ h.0); rest_fits = t.rest_fits; lawful = tt })
      | inr h ↦
          elim (chosen (eqb a.0.0 1) (as_at name_at Some a.0.1) None (Some (x, rest)) h.1) [
            | inl k ↦
                let b = some_bind (name_at a.0.1) (λ o. Some (Some o.0, o.1)) (x, rest) k.1 in
                let u = name_reads.takes a.0.1 b.0.0 b.0.1 t.rest_fits b.1 in
                subst (λ (y : Option (List ℕ) × List ℕ). Took (λ a. field (After a)) (λ a. IsField (After a)) bytes y.0 y.1) (some_is (Some b.0.0, b.0.1) (x, rest) b.2)
                (record { parts = t.parts ∙ ap (λ (n : ℕ). big_bytes 1 n ++ a.0.1) (eqb-true _ _ k.0) ∙ ap (λ (l : List ℕ). 1 ∷ l) u.parts; rest_fits = u.rest_fits; lawful = u.lawful })
            | inr k ↦ absurd (no_value (x, rest) k.1)
          ]
    ]

after_again : (x : Option (List ℕ)) (rest : List ℕ) → IsField (After x) → after_at (field (After x) ++ rest) ≡ Some (x, rest)
unfolding after_at
after_again None rest h = bind_is (number_at 1 (big_bytes 1 0 ++ rest)) (0, rest) (λ a. after_behind a.0 a.1) (byte_reads.again 0 rest (omega arith))
after_again (Some k) rest h =
    bind_is (number_at 1 (big_bytes 1 1 ++ (name k ++ rest))) (1, name k ++ rest) (λ a. after_behind a.0 a.1) (byte_reads.again 1 (name k ++ rest) (omega arith))
    ∙ bind_is (name_at (name k ++ rest)) (k, rest) (λ a. Some (Some a.0, a.1)) (name_reads.again k rest h)

after_reads : IsReader after_at (λ a. field (After a)) (λ a. IsField (After a))
after_reads = record { takes = after_takes; again = after_again }

-- ---- two fields

-- one field behind another
two_reads : {A B : Type 0} (r : Reader A) (s : Reader B) (f : A → Field) (g : B → Field) → IsReader r (λ a. field (f a)) (λ a. IsField (f a)) → IsReader s (λ b. field (g b)) (λ b. IsField (g b))
    → ReadsFields (then_at r (λ _. s)) (λ p. f p.0 ∷ g p.1 ∷ [])
two_reads {A} {B} r s f g first second =
    also_reads (then_at r (λ _. s)) (λ p. field (f p.0) ++ field (g p.1)) (λ p. field_bytes (f p.0 ∷ g p.1 ∷ [])) (λ p. IsField (f p.0) × IsField (g p.1)) (λ p. AllByRecursion IsField (f p.0 ∷ g p.1 ∷ []))
    (then_reads r (λ _. s) (λ a. field (f a)) (λ b. field (g b)) (λ a. IsField (f a)) (λ _ b. IsField (g b)) first (λ _ _. second))
    (λ p. refl) (λ p h. (h.0, (h.1, tt))) (λ p h. (h.0, h.1.0))

-- one field alone
one_reads : {A : Type 0} (r : Reader A) (f : A → Field) → ReadsFields r (λ a. f a ∷ []) → IsReader r (λ a. field (f a)) (λ a. IsField (f a))
one_reads r f reads = also_reads r (λ a. field_bytes (f a ∷ [])) (λ a. field (f a)) (λ a. AllByRecursion IsField (f a ∷ [])) (λ a. IsField (f a)) reads (λ a. refl) (λ a h. h.0) (λ a h. (h, tt))

pub numbers_reads : ReadsFields words_at numbers
numbers_reads = two_reads word_at word_at Number Number (one_reads word_at Number number_reads) (one_reads word_at Number number_reads)

pub number_bytes_reads : ReadsFields word_text_at number_bytes
number_bytes_reads = two_reads word_at text_at Number Bytes (one_reads word_at Number number_reads) (one_reads text_at Bytes bytes_reads)

pub key_bytes_reads : ReadsFields key_text_at key_bytes
key_bytes_reads = two_reads name_at text_at Key Bytes (one_reads name_at Key key_reads) (one_reads text_at Bytes bytes_reads)

pub after_number_reads : ReadsFields after_word_at after_number
after_number_reads = two_reads after_at word_at After Number after_reads (one_reads word_at Number number_reads)
