-- Sub-operations: what is taken is spelled so, and what is spelled so is taken.
use Rattle.std.proofs.Common.{◌≡◌, ℕ, ◌^◌, ◌<◌, Bool, true, false, cond, leb, eqb, List, [], ◌∷◌, ◌++◌, Some, refl, sym, ap, subst, ◌∙◌, arith, inl, inr}
use Rattle.std.specs.List.{AllByRecursion}
use Rattle.std.proofs.lemmas.Bool.{eqb-true}
use Rattle.byteorder.specs.Endian.{big_bytes}
use Rattle.obj_model.specs.Fields.{Field, fields}
use Rattle.obj_model.specs.declared.sub_op.SubOp.{SubOp}
use Rattle.obj_model.specs.declared.sub_op.SubOp.TheVariants as op
use Rattle.rec_codec.specs.Spelling.{field_bytes, tag, sub_op, IsField, IsFit}
use Rattle.rec_codec.specs.Reading.{Reader, behind_at, as_at, number_at, name_at}
use Rattle.rec_codec.proofs.Readers.{IsBytes, some_bind, some_is, bind_is, Took, IsReader, behind_reads, also_reads}
use Rattle.rec_codec.proofs.BlockLaws.{byte_reads}
use Rattle.rec_codec.proofs.ReplyLaws.{chosen, no_value}
use Rattle.req_codec.specs.Reading.{nothing_at, word_at, text_at, words_at, word_text_at, key_text_at, after_word_at, Row, body_rows, table_rows, guard_rows, read_rows, among, op_behind, op_at}
use Rattle.req_codec.proofs.FieldLaws.{ReadsFields, no_fields, number, bytes, key, numbers, number_bytes, key_bytes, after_number, nothing_reads, number_reads, bytes_reads, key_reads, numbers_reads, number_bytes_reads, key_bytes_reads, after_number_reads}

-- ---- rows

-- what a reader takes behind a tag is a sub-operation of that tag, and its fields are spelled so
abbrev pub Takes : ℕ → Reader SubOp → Type 0
Takes t read =
    (bytes : List ℕ) (o : SubOp) (rest : List ℕ) → IsBytes bytes → read bytes ≡ Some (o, rest)
    → Took (λ o. field_bytes (fields o)) (λ o. (tag o ≡ t) × IsFit o) bytes o rest

row_takes : {A : Type 0} (r : Reader A) (shape : A → List Field) (make : A → SubOp) (t : ℕ) → ReadsFields r shape → ((a : A) → fields (make a) ≡ shape a) → ((a : A) → tag (make a) ≡ t) → Takes t (as_at r make)
row_takes {A} r shape make t reads same tagged = λ bytes o rest fits e.
    let a = some_bind (r bytes) (λ a. Some (make a.0, a.1)) (o, rest) e in
    let u = reads.takes bytes a.0.0 a.0.1 fits a.1 in
    subst (λ (y : SubOp × List ℕ). Took (λ o. field_bytes (fields o)) (λ o. (tag o ≡ t) × IsFit o) bytes y.0 y.1) (some_is (make a.0.0, a.0.1) (o, rest) a.2)
    (record {
      parts = u.parts ∙ ap (λ (fs : List Field). field_bytes fs ++ a.0.1) (sym (same a.0.0));
      rest_fits = u.rest_fits;
      lawful = (tagged a.0.0, subst (λ (fs : List Field). AllByRecursion IsField fs) (sym (same a.0.0)) u.lawful);
    })

row_again : {A : Type 0} (r : Reader A) (shape : A → List Field) (make : A → SubOp) → ReadsFields r shape → (a : A) (rest : List ℕ) → AllByRecursion IsField (shape a) → as_at r make (field_bytes (shape a) ++ rest) ≡ Some (make a, rest)
row_again r shape make reads a rest h = bind_is (r (field_bytes (shape a) ++ rest)) (a, rest) (λ x. Some (make x.0, x.1)) (reads.again a rest h)

-- ---- tables of rows

-- each row takes what it should
abbrev TakeAll : List Row → Type 0
TakeAll rows = AllByRecursion (λ (row : Row). Takes row.0 row.1) rows

among_takes : (rows : List Row) → TakeAll rows → (t : ℕ) → Takes t (among rows t)
among_takes [] h t bytes o rest fits e = absurd (no_value (o, rest) e)
among_takes (row ∷ rows) h t bytes o rest fits e =
    elim (chosen (eqb t row.0) (row.1 bytes) (among rows t bytes) (Some (o, rest)) e) [
      | inl k ↦ let u = h.0 bytes o rest fits k.1 in record { parts = u.parts; rest_fits = u.rest_fits; lawful = (u.lawful.0 ∙ sym (eqb-true _ _ k.0), u.lawful.1) }
      | inr k ↦ among_takes rows h.1 t bytes o rest fits k.1
    ]

body_takes : TakeAll body_rows
body_takes = (
  row_takes nothing_at no_fields (λ _. op.Create) 1 nothing_reads (λ _. refl) (λ _. refl),
  (
    row_takes text_at bytes (λ b. op.WriteFull b) 2 bytes_reads (λ _. refl) (λ _. refl),
    (
      row_takes word_text_at number_bytes (λ p. op.Write p.0 p.1) 3 number_bytes_reads (λ _. refl) (λ _. refl),
      (
        row_takes text_at bytes (λ b. op.Append b) 4 bytes_reads (λ _. refl) (λ _. refl),
        (
          row_takes words_at numbers (λ p. op.Zero p.0 p.1) 5 numbers_reads (λ _. refl) (λ _. refl),
          (
            row_takes word_at number (λ n. op.Truncate n) 6 number_reads (λ _. refl) (λ _. refl),
            (row_takes nothing_at no_fields (λ _. op.Remove) 7 nothing_reads (λ _. refl) (λ _. refl), tt),
          ),
        ),
      ),
    ),
  ),
)

table_takes : TakeAll table_rows
table_takes = (
  row_takes key_text_at key_bytes (λ p. op.SetXattr p.0 p.1) 8 key_bytes_reads (λ _. refl) (λ _. refl),
  (
    row_takes name_at key (λ k. op.RmXattr k) 9 key_reads (λ _. refl) (λ _. refl),
    (
      row_takes key_text_at key_bytes (λ p. op.OmapSet p.0 p.1) 10 key_bytes_reads (λ _. refl) (λ _. refl),
      (
        row_takes name_at key (λ k. op.OmapRm k) 11 key_reads (λ _. refl) (λ _. refl),
        (row_takes nothing_at no_fields (λ _. op.OmapClear) 12 nothing_reads (λ _. refl) (λ _. refl), tt),
      ),
    ),
  ),
)

guard_takes : TakeAll guard_rows
guard_takes = (
  row_takes nothing_at no_fields (λ _. op.AssertExists) 13 nothing_reads (λ _. refl) (λ _. refl),
  (
    row_takes word_at number (λ n. op.AssertVer n) 14 number_reads (λ _. refl) (λ _. refl),
    (row_takes key_text_at key_bytes (λ p. op.CmpXattr p.0 p.1) 15 key_bytes_reads (λ _. refl) (λ _. refl), tt),
  ),
)

read_takes : TakeAll read_rows
read_takes = (
  row_takes words_at numbers (λ p. op.Read p.0 p.1) 16 numbers_reads (λ _. refl) (λ _. refl),
  (
    row_takes nothing_at no_fields (λ _. op.Stat) 17 nothing_reads (λ _. refl) (λ _. refl),
    (
      row_takes name_at key (λ k. op.GetXattr k) 18 key_reads (λ _. refl) (λ _. refl),
      (
        row_takes nothing_at no_fields (λ _. op.ListXattrs) 19 nothing_reads (λ _. refl) (λ _. refl),
        (
          row_takes name_at key (λ k. op.OmapGet k) 20 key_reads (λ _. refl) (λ _. refl),
          (row_takes after_word_at after_number (λ p. op.OmapList p.0 p.1) 21 after_number_reads (λ _. refl) (λ _. refl), tt),
        ),
      ),
    ),
  ),
)

-- one of two readers, by a test
either_takes : (t : ℕ) (b : Bool) (r s : Reader SubOp) → Takes t r → Takes t s → Takes t (λ bytes. cond b (r bytes) (s bytes))
either_takes t true r s p q = p
either_takes t false r s p q = q

behind_takes : (t : ℕ) → Takes t (op_behind t)
behind_takes t =
    either_takes t (leb t 7) (among body_rows t) (λ l. cond (leb t 12) (among table_rows t l) (cond (leb t 15) (among guard_rows t l) (among read_rows t l))) (among_takes body_rows body_takes t)
    (either_takes t (leb t 12) (among table_rows t) (λ l. cond (leb t 15) (among guard_rows t l) (among read_rows t l)) (among_takes table_rows table_takes t)
    (either_takes t (leb t 15) (among guard_rows t) (among read_rows t) (among_takes guard_rows guard_takes t) (among_takes read_rows read_takes t)))

op_again : (o : SubOp) (rest : List ℕ) → IsFit o → op_behind (tag o) (field_bytes (fields o) ++ rest) ≡ Some (o, rest)
op_again op.Create rest h = refl
op_again (op.WriteFull b) rest h = row_again text_at bytes (λ b. op.WriteFull b) bytes_reads b rest h
op_again (op.Write n b) rest h = row_again word_text_at number_bytes (λ p. op.Write p.0 p.1) number_bytes_reads (n, b) rest h
op_again (op.Append b) rest h = row_again text_at bytes (λ b. op.Append b) bytes_reads b rest h
op_again (op.Zero m n) rest h = row_again words_at numbers (λ p. op.Zero p.0 p.1) numbers_reads (m, n) rest h
op_again (op.Truncate n) rest h = row_again word_at number (λ n. op.Truncate n) number_reads n rest h
op_again op.Remove rest h = refl
op_again (op.SetXattr k b) rest h = row_again key_text_at key_bytes (λ p. op.SetXattr p.0 p.1) key_bytes_reads (k, b) rest h
op_again (op.RmXattr k) rest h = row_again name_at key (λ k. op.RmXattr k) key_reads k rest h
op_again (op.OmapSet k b) rest h = row_again key_text_at key_bytes (λ p. op.OmapSet p.0 p.1) key_bytes_reads (k, b) rest h
op_again (op.OmapRm k) rest h = row_again name_at key (λ k. op.OmapRm k) key_reads k rest h
op_again op.OmapClear rest h = refl
op_again op.AssertExists rest h = refl
op_again (op.AssertVer n) rest h = row_again word_at number (λ n. op.AssertVer n) number_reads n rest h
op_again (op.CmpXattr k b) rest h = row_again key_text_at key_bytes (λ p. op.CmpXattr p.0 p.1) key_bytes_reads (k, b) rest h
op_again (op.Read m n) rest h = row_again words_at numbers (λ p. op.Read p.0 p.1) numbers_reads (m, n) rest h
op_again op.Stat rest h = refl
op_again (op.GetXattr k) rest h = row_again name_at key (λ k. op.GetXattr k) key_reads k rest h
op_again op.ListXattrs rest h = refl
op_again (op.OmapGet k) rest h = row_again name_at key (λ k. op.OmapGet k) key_reads k rest h
op_again (op.OmapList a n) rest h = row_again after_word_at after_number (λ p. op.OmapList p.0 p.1) after_number_reads (a, n) rest h

behind_op_reads : (t : ℕ) → IsReader (op_behind t) (λ o. field_bytes (fields o)) (λ o. (tag o ≡ t) × IsFit o)
behind_op_reads t = record {
  takes = behind_takes t;
  again = λ o rest lawful. subst (λ (n : ℕ). op_behind n (field_bytes (fields o) ++ rest) ≡ Some (o, rest)) lawful.0 (op_again o rest lawful.1);
}

-- a tag is one byte
tag_byte : (o : SubOp) → (tag o < 256 ^ 1) × (big_bytes 1 (tag o) ≡ tag o ∷ [])
tag_byte op.Create = (omega arith, refl)
tag_byte (op.WriteFull b) = (omega arith, refl)
tag_byte (op.Write n b) = (omega arith, refl)
tag_byte (op.Append b) = (omega arith, refl)
tag_byte (op.Zero m n) = (omega arith, refl)
tag_byte (op.Truncate n) = (omega arith, refl)
tag_byte op.Remove = (omega arith, refl)
tag_byte (op.SetXattr k b) = (omega arith, refl)
tag_byte (op.RmXattr k) = (omega arith, refl)
tag_byte (op.OmapSet k b) = (omega arith, refl)
tag_byte (op.OmapRm k) = (omega arith, refl)
tag_byte op.OmapClear = (omega arith, refl)
tag_byte op.AssertExists = (omega arith, refl)
tag_byte (op.AssertVer n) = (omega arith, refl)
tag_byte (op.CmpXattr k b) = (omega arith, refl)
tag_byte (op.Read m n) = (omega arith, refl)
tag_byte op.Stat = (omega arith, refl)
tag_byte (op.GetXattr k) = (omega arith, refl)
tag_byte op.ListXattrs = (omega arith, refl)
tag_byte (op.OmapGet k) = (omega arith, refl)
tag_byte (op.OmapList a n) = (omega arith, refl)

pub op_reads : IsReader op_at sub_op IsFit
unfolding op_at
op_reads = also_reads (behind_at (number_at 1) op_behind) (λ o. big_bytes 1 (tag o) ++ field_bytes (fields o)) sub_op IsFit IsFit
    (behind_reads (number_at 1) op_behind tag (big_bytes 1) (λ o. field_bytes (fields o)) (λ n. n < 256 ^ 1) IsFit byte_reads (λ o _. (tag_byte o).0) (λ t _. behind_op_reads t))
    (λ o. ap (λ (l : List ℕ). l ++ field_bytes (fields o)) (tag_byte o).1) (λ o h. h) (λ o h. h)
