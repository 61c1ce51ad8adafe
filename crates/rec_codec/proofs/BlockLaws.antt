-- Numbers, bytes and names: what is taken is spelled so, and what is spelled so is taken.
use Rattle.std.proofs.Common.{◌≡◌, ℕ, ◌^◌, ◌<◌, ◌≤◌, Bool, true, false, cond, ltb, leb, eqb, not, List, [], ◌∷◌, ◌++◌, length, take, drop, Option, Some, None, refl, sym, ap, subst, ◌∙◌, arith}
use Rattle.std.specs.Prelude.{is_some}
use Rattle.std.specs.Int.{w16, w32, w64, from_be_bytes}
use Rattle.std.proofs.lemmas.Bool.{ltb-false, le-ltb, eqb-false}
use Rattle.std.proofs.lemmas.List.{take_at, drop_at, take-append-drop, length-append, length-take}
use Rattle.std.proofs.lemmas.Nat.{be_bytes_2, be_bytes_4, be_bytes_8}
use Rattle.byteorder.specs.Endian.{big_bytes, big_number}
use Rattle.byteorder.specs.Numbers.{big_number-reads_back, big_from-lt, length-bytes_high_first}
use Rattle.std.specs.List.{position}
use Rattle.obj_model.specs.Names.{name_fault, byte_fault, is_wrong_byte}
use Rattle.obj_model.specs.declared.name.BadName.TheVariants.{Empty, Long}
use Rattle.obj_model.specs.declared.name.BadName.{BadName}
use Rattle.rec_codec.specs.Spelling.{name, string}
use Rattle.rec_codec.specs.Reading.{if_at, number_at, taken_at, short_at, string_at, name_at}
use Rattle.rec_codec.proofs.Readers.{IsBytes, IsBytes-drop, IsBytes-take, unless_some, some_is, Took, IsReader, behind_reads, if_reads, also_reads}

-- ---- numbers

-- the bytes of the number that so many bytes make are those bytes
abbrev Back : ℕ → Type 0
Back n = (bytes : List ℕ) → n ≤ length bytes → IsBytes bytes → big_bytes n (big_number n bytes) ≡ take n bytes

back_1 : Back 1
back_1 [] long fits = absurd (omega arith)
back_1 (a ∷ bytes) long fits = ap (λ (x : ℕ). x ∷ []) (omega (arith, fits 0))

same_2 : (bytes : List ℕ) → 2 ≤ length bytes → big_number 2 bytes ≡ from_be_bytes w16 (take 2 bytes)
same_2 [] long = absurd (omega arith)
same_2 (a ∷ []) long = absurd (omega arith)
same_2 (a ∷ b ∷ bytes) long = omega arith

same_4 : (bytes : List ℕ) → 4 ≤ length bytes → big_number 4 bytes ≡ from_be_bytes w32 (take 4 bytes)
same_4 [] long = absurd (omega arith)
same_4 (a ∷ []) long = absurd (omega arith)
same_4 (a ∷ b ∷ []) long = absurd (omega arith)
same_4 (a ∷ b ∷ c ∷ []) long = absurd (omega arith)
same_4 (a ∷ b ∷ c ∷ d ∷ bytes) long = omega arith

same_8 : (bytes : List ℕ) → 8 ≤ length bytes → big_number 8 bytes ≡ from_be_bytes w64 (take 8 bytes)
same_8 [] long = absurd (omega arith)
same_8 (a ∷ []) long = absurd (omega arith)
same_8 (a ∷ b ∷ []) long = absurd (omega arith)
same_8 (a ∷ b ∷ c ∷ []) long = absurd (omega arith)
same_8 (a ∷ b ∷ c ∷ d ∷ []) long = absurd (omega arith)
same_8 (a ∷ b ∷ c ∷ d ∷ e ∷ []) long = absurd (omega arith)
same_8 (a ∷ b ∷ c ∷ d ∷ e ∷ f ∷ []) long = absurd (omega arith)
same_8 (a ∷ b ∷ c ∷ d ∷ e ∷ f ∷ g ∷ []) long = absurd (omega arith)
same_8 (a ∷ b ∷ c ∷ d ∷ e ∷ f ∷ g ∷ h ∷ bytes) long = omega arith

back_2 : Back 2
back_2 bytes long fits = be_bytes_2 (take 2 bytes) (big_number 2 bytes) (omega (arith, length-take 2 bytes)) (IsBytes-take 2 bytes fits) (same_2 bytes long)

back_4 : Back 4
back_4 bytes long fits = be_bytes_4 (take 4 bytes) (big_number 4 bytes) (omega (arith, length-take 4 bytes)) (IsBytes-take 4 bytes fits) (same_4 bytes long)

back_8 : Back 8
back_8 bytes long fits = be_bytes_8 (take 8 bytes) (big_number 8 bytes) (omega (arith, length-take 8 bytes)) (IsBytes-take 8 bytes fits) (same_8 bytes long)

number_reads : (n : ℕ) → Back n → IsReader (number_at n) (big_bytes n) (λ x. x < 256 ^ n)
number_reads n back = record {
  takes = λ bytes x rest fits e.
      let g = unless_some (ltb (length bytes) n) (Some (big_number n bytes, drop n bytes)) (x, rest) e in
      let long : n ≤ length bytes = ltb-false _ _ g.0 in
      subst (λ (y : ℕ × List ℕ). Took (big_bytes n) (λ x. x < 256 ^ n) bytes y.0 y.1) (some_is (big_number n bytes, drop n bytes) (x, rest) g.1)
      (record { parts = sym (ap (λ (l : List ℕ). l ++ drop n bytes) (back bytes long fits) ∙ take-append-drop n bytes); rest_fits = IsBytes-drop n bytes fits; lawful = big_from-lt 0 n bytes fits });
  again = λ x rest lawful.
      let len = length-bytes_high_first n x in
      let long : ltb (length (big_bytes n x ++ rest)) n ≡ false = le-ltb _ _ (omega (arith, length-append (big_bytes n x) rest)) in
      ap (λ (b : Bool). cond b None (Some (big_number n (big_bytes n x ++ rest), drop n (big_bytes n x ++ rest)))) long
      ∙ ap (λ (y : ℕ). Some (y, drop n (big_bytes n x ++ rest))) (big_number-reads_back n x rest lawful)
      ∙ ap (λ (l : List ℕ). Some (x, l)) (drop_at (big_bytes n x) rest n len);
}

pub byte_reads : IsReader (number_at 1) (big_bytes 1) (λ x. x < 256 ^ 1)
byte_reads = number_reads 1 back_1

pub u16_reads : IsReader (number_at 2) (big_bytes 2) (λ x. x < 256 ^ 2)
u16_reads = number_reads 2 back_2

pub u32_reads : IsReader (number_at 4) (big_bytes 4) (λ x. x < 256 ^ 4)
u32_reads = number_reads 4 back_4

pub u64_reads : IsReader (number_at 8) (big_bytes 8) (λ x. x < 256 ^ 8)
u64_reads = number_reads 8 back_8

-- ---- bytes

pub taken_reads : (n : ℕ) → IsReader (taken_at n) (λ text. text) (λ text. length text ≡ n)
taken_reads n = record {
  takes = λ bytes x rest fits e.
      let g = unless_some (ltb (length bytes) n) (Some (take n bytes, drop n bytes)) (x, rest) e in
      let long : n ≤ length bytes = ltb-false _ _ g.0 in
      subst (λ (y : List ℕ × List ℕ). Took (λ text. text) (λ text. length text ≡ n) bytes y.0 y.1) (some_is (take n bytes, drop n bytes) (x, rest) g.1)
      (record { parts = sym (take-append-drop n bytes); rest_fits = IsBytes-drop n bytes fits; lawful = omega (arith, length-take n bytes) });
  again = λ x rest lawful.
      let long : ltb (length (x ++ rest)) n ≡ false = le-ltb _ _ (omega (arith, length-append x rest)) in
      ap (λ (b : Bool). cond b None (Some (take n (x ++ rest), drop n (x ++ rest)))) long
      ∙ ap (λ (l : List ℕ). Some (l, drop n (x ++ rest))) (take_at x rest n lawful)
      ∙ ap (λ (l : List ℕ). Some (x, l)) (drop_at x rest n lawful);
}

short_reads : IsReader short_at name (λ text. length text < 256 ^ 1)
unfolding short_at
short_reads = behind_reads (number_at 1) taken_at length (big_bytes 1) (λ text. text) (λ n. n < 256 ^ 1) (λ text. length text < 256 ^ 1) byte_reads (λ text h. h)
    (λ n h. also_reads (taken_at n) (λ text. text) (λ text. text) (λ text. length text ≡ n) (λ text. (length text ≡ n) × (length text < 256 ^ 1)) (taken_reads n) (λ text. refl) (λ text e. (e, subst (λ (k : ℕ). k < 256 ^ 1) (sym e) h)) (λ text e. e.0))

pub string_reads : (most : ℕ) → IsReader (string_at most) string (λ text. (length text < 256 ^ 4) × (leb (length text) most ≡ true))
unfolding string_at
string_reads most = behind_reads (if_at (number_at 4) (λ n. leb n most)) taken_at length (big_bytes 4) (λ text. text) (λ n. (n < 256 ^ 4) × (leb n most ≡ true)) (λ text. (length text < 256 ^ 4) × (leb (length text) most ≡ true))
    (if_reads (number_at 4) (λ n. leb n most) (big_bytes 4) (λ n. n < 256 ^ 4) u32_reads) (λ text h. h)
    (λ n h. also_reads (taken_at n) (λ text. text) (λ text. text) (λ text. length text ≡ n) (λ text. (length text ≡ n) × ((length text < 256 ^ 4) × (leb (length text) most ≡ true))) (taken_reads n) (λ text. refl) (λ text e. (e, subst (λ (k : ℕ). (k < 256 ^ 4) × (leb k most ≡ true)) (sym e) h)) (λ text e. e.0))

-- ---- names

no_fault : (o : Option BadName) → not (is_some o) ≡ true → o ≡ None
no_fault None e = refl
no_fault (Some f) e = absurd cc

none_then : {A : Type 0} (b : Bool) (x : A) (o : Option A) → cond b (Some x) o ≡ None → (b ≡ false) × (o ≡ None)
none_then true x o e = absurd cc
none_then false x o e = (refl, e)

-- a name has bytes, and few
pub name_short : (bytes : List ℕ) → name_fault bytes ≡ None → (0 < length bytes) × (length bytes < 256 ^ 1)
name_short bytes e =
    let g = none_then (eqb (length bytes) 0) Empty (cond (ltb 255 (length bytes)) (Some (Long (length bytes))) (byte_fault bytes (position is_wrong_byte bytes))) e in
    let h = none_then (ltb 255 (length bytes)) (Long (length bytes)) (byte_fault bytes (position is_wrong_byte bytes)) g.1 in
    let some : length bytes ≡ 0 → ⊥ = eqb-false _ _ g.0 in
    let few : length bytes ≤ 255 = ltb-false _ _ h.0 in
    (omega arith, omega arith)

pub name_reads : IsReader name_at name (λ bytes. name_fault bytes ≡ None)
unfolding name_at
name_reads = also_reads (if_at short_at (λ bytes. not (is_some (name_fault bytes)))) name name (λ bytes. (length bytes < 256 ^ 1) × (not (is_some (name_fault bytes)) ≡ true)) (λ bytes. name_fault bytes ≡ None)
    (if_reads short_at (λ bytes. not (is_some (name_fault bytes))) name (λ bytes. length bytes < 256 ^ 1) short_reads) (λ bytes. refl)
    (λ bytes h. no_fault (name_fault bytes) h.1) (λ bytes h. ((name_short bytes h).1, ap (λ (o : Option BadName). not (is_some o)) h))
