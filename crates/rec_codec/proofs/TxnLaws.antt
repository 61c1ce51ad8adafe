-- Changes and transactions: what is taken is spelled so, and what is spelled so is taken.
use Rattle.std.proofs.Common.{◌≡◌, ◌≢◌, ℕ, ◌^◌, ◌<◌, Bool, true, false, cond, not, leb, eqb, ◌&&◌, ◌||◌, List, [], ◌∷◌, ◌++◌, length, Option, Some, None, option_map, refl, sym, ap, subst, ◌∙◌, arith, inl, inr}
use Rattle.std.specs.Prelude.{IfSome, IfNone, bytes_eq, Decides}
use Rattle.std.specs.List.{AllByRecursion, flat_map}
use Rattle.std.specs.Global.{Vec}
use Rattle.std.proofs.lemmas.Bool.{both_ways, and_parts, and_from, leb-true, le-leb, eqb-true}
use Rattle.std.proofs.lemmas.Slice.Eq.{bytes_eq-Decides}
use Rattle.std.proofs.lemmas.List.Elements.{All-from_recursion, recursion_from_All}
use Rattle.byteorder.specs.Endian.{big_bytes}
use Rattle.obj_model.specs.declared.change.Change.{Change}
use Rattle.obj_model.specs.declared.change.Change.TheVariants.{Put, Remove}
use Rattle.obj_model.specs.Changes.{key_of, IsStoreKey, IsChange, AreApart, IsTxn}
use Rattle.rec_codec.specs.Spelling.{string, store_key, change, txn_bytes, SpellsTxn}
use Rattle.rec_codec.specs.Reading.{Reader, then_at, behind_at, if_at, as_at, number_at, taken_at, string_at, store_key_at, change_behind, change_at, changes_at, is_among, are_apart, txn_at, whole}
use Rattle.rec_codec.proofs.Readers.{IsBytes, IsReader, then_reads, behind_reads, if_reads, as_reads, also_reads, Each, each_reads, each_plain, plain_each}
use Rattle.rec_codec.proofs.BlockLaws.{byte_reads, u16_reads, string_reads, taken_reads}
use Rattle.rec_codec.proofs.ReplyLaws.{chosen, no_value}
use Rattle.rec_codec.proofs.Whole.{whole_takes, whole_again, apart}

-- ---- keys

abbrev fits_key : ℕ → Bool
fits_key n = leb 1 n && leb n 256

abbrev IsFitKey : List ℕ → Type 0
IsFitKey key = (length key < 256 ^ 2) × (fits_key (length key) ≡ true)

store_key_reads : IsReader store_key_at store_key IsFitKey
unfolding store_key_at
store_key_reads = behind_reads (if_at (number_at 2) fits_key) taken_at length (big_bytes 2) (λ text. text) (λ n. (n < 256 ^ 2) × (fits_key n ≡ true)) IsFitKey
    (if_reads (number_at 2) fits_key (big_bytes 2) (λ n. n < 256 ^ 2) u16_reads) (λ text h. h)
    (λ n h. also_reads (taken_at n) (λ text. text) (λ text. text) (λ text. length text ≡ n) (λ text. (length text ≡ n) × IsFitKey text) (taken_reads n) (λ text. refl) (λ text e. (e, subst (λ (k : ℕ). (k < 256 ^ 2) × (fits_key k ≡ true)) (sym e) h)) (λ text e. e.0))

-- ---- changes

abbrev change_tag : Change → ℕ
change_tag (Put key value) = 1
change_tag (Remove key) = 2

abbrev value_of : Change → List ℕ
value_of (Put key value) = value
value_of (Remove key) = []

abbrev change_fields : Change → List ℕ
change_fields (Put key value) = store_key key ++ string value
change_fields (Remove key) = store_key key

-- a change within its limits
abbrev IsSoundChange : Change → Type 0
IsSoundChange (Put key value) = IsFitKey key × ((length value < 256 ^ 4) × (leb (length value) 16777216 ≡ true))
IsSoundChange (Remove key) = IsFitKey key

put_back : (c : Change) → (change_tag c ≡ 1) × IsSoundChange c → (IsFitKey (key_of c) × ((length (value_of c) < 256 ^ 4) × (leb (length (value_of c)) 16777216 ≡ true))) × (Put (key_of c) (value_of c) ≡ c)
put_back (Put key value) h = (h.1, refl)
put_back (Remove key) h = absurd (omega (arith, h.0))

remove_back : (c : Change) → (change_tag c ≡ 2) × IsSoundChange c → IsFitKey (key_of c) × (Remove (key_of c) ≡ c)
remove_back (Put key value) h = absurd (omega (arith, h.0))
remove_back (Remove key) h = (h.1, refl)

put_fields : (c : Change) → (change_tag c ≡ 1) × IsSoundChange c → store_key (key_of c) ++ string (value_of c) ≡ change_fields c
put_fields (Put key value) h = refl
put_fields (Remove key) h = absurd (omega (arith, h.0))

remove_fields : (c : Change) → (change_tag c ≡ 2) × IsSoundChange c → store_key (key_of c) ≡ change_fields c
remove_fields (Put key value) h = absurd (omega (arith, h.0))
remove_fields (Remove key) h = refl

-- the same reader, of what is spelled the same where it is lawful
spelled_reads : {X : Type 0} (r : Reader X) (sp sq : X → List ℕ) (L : X → Type 0) → IsReader r sp L → ((x : X) → L x → sp x ≡ sq x) → IsReader r sq L
spelled_reads r sp sq L reads same = record {
  takes = λ bytes x rest fits e. let t = reads.takes bytes x rest fits e in record { parts = t.parts ∙ ap (λ (l : List ℕ). l ++ rest) (same x t.lawful); rest_fits = t.rest_fits; lawful = t.lawful };
  again = λ x rest lawful. ap (λ (l : List ℕ). r (l ++ rest)) (sym (same x lawful)) ∙ reads.again x rest lawful;
}

put_reads : IsReader (as_at (then_at store_key_at (λ _. string_at 16777216)) (λ p. Put p.0 p.1)) change_fields (λ c. (change_tag c ≡ 1) × IsSoundChange c)
put_reads = spelled_reads (as_at (then_at store_key_at (λ _. string_at 16777216)) (λ p. Put p.0 p.1)) (λ c. store_key (key_of c) ++ string (value_of c)) change_fields (λ c. (change_tag c ≡ 1) × IsSoundChange c)
    (as_reads (then_at store_key_at (λ _. string_at 16777216)) (λ p. Put p.0 p.1) (λ c. (key_of c, value_of c)) (λ p. store_key p.0 ++ string p.1) (λ p. IsFitKey p.0 × ((length p.1 < 256 ^ 4) × (leb (length p.1) 16777216 ≡ true))) (λ c. (change_tag c ≡ 1) × IsSoundChange c)
    (then_reads store_key_at (λ _. string_at 16777216) store_key string IsFitKey (λ _ v. (length v < 256 ^ 4) × (leb (length v) 16777216 ≡ true)) store_key_reads (λ _ _. string_reads 16777216))
    (λ p h. ((refl, h), refl)) put_back)
    put_fields

remove_reads : IsReader (as_at store_key_at Remove) change_fields (λ c. (change_tag c ≡ 2) × IsSoundChange c)
remove_reads = spelled_reads (as_at store_key_at Remove) (λ c. store_key (key_of c)) change_fields (λ c. (change_tag c ≡ 2) × IsSoundChange c)
    (as_reads store_key_at Remove key_of store_key IsFitKey (λ c. (change_tag c ≡ 2) × IsSoundChange c) store_key_reads (λ k h. ((refl, h), refl)) remove_back)
    remove_fields

change_again : (c : Change) (rest : List ℕ) → IsSoundChange c → change_behind (change_tag c) (change_fields c ++ rest) ≡ Some (c, rest)
change_again (Put key value) rest h = put_reads.again (Put key value) rest (refl, h)
change_again (Remove key) rest h = remove_reads.again (Remove key) rest (refl, h)

change_behind_reads : (tag : ℕ) → IsReader (change_behind tag) change_fields (λ c. (change_tag c ≡ tag) × IsSoundChange c)
change_behind_reads tag = record {
  takes = λ bytes x rest fits e.
      elim (chosen (eqb tag 1) (as_at (then_at store_key_at (λ _. string_at 16777216)) (λ p. Put p.0 p.1) bytes) (cond (eqb tag 2) (as_at store_key_at Remove bytes) None) (Some (x, rest)) e) [
        | inl h ↦ let t = put_reads.takes bytes x rest fits h.1 in record { parts = t.parts; rest_fits = t.rest_fits; lawful = (t.lawful.0 ∙ sym (eqb-true _ _ h.0), t.lawful.1) }
        | inr h ↦
            elim (chosen (eqb tag 2) (as_at store_key_at Remove bytes) None (Some (x, rest)) h.1) [
              | inl k ↦ let t = remove_reads.takes bytes x rest fits k.1 in record { parts = t.parts; rest_fits = t.rest_fits; lawful = (t.lawful.0 ∙ sym (eqb-true _ _ k.0), t.lawful.1) }
              | inr k ↦ absurd (no_value (x, rest) k.1)
            ]
      ];
  again = λ x rest lawful. subst (λ (t : ℕ). change_behind t (change_fields x ++ rest) ≡ Some (x, rest)) lawful.0 (change_again x rest lawful.1);
}

change_spelled : (c : Change) → big_bytes 1 (change_tag c) ++ change_fields c ≡ change c
change_spelled (Put key value) = refl
change_spelled (Remove key) = refl

change_tag_small : (c : Change) → change_tag c < 256 ^ 1
change_tag_small (Put key value) = omega arith
change_tag_small (Remove key) = omega arith

change_reads : IsReader change_at change IsSoundChange
unfolding change_at
change_reads = also_reads (behind_at (number_at 1) change_behind) (λ c. big_bytes 1 (change_tag c) ++ change_fields c) change IsSoundChange IsSoundChange
    (behind_reads (number_at 1) change_behind change_tag (big_bytes 1) change_fields (λ n. n < 256 ^ 1) IsSoundChange byte_reads (λ c _. change_tag_small c) (λ tag _. change_behind_reads tag))
    change_spelled (λ c h. h) (λ c h. h)

-- ---- transactions

abbrev fits_count : ℕ → Bool
fits_count n = leb 1 n && leb n 8

-- a transaction within its limits
abbrev IsSoundTxn : List Change → Type 0
IsSoundTxn cs = ((length cs < 256 ^ 1) × (fits_count (length cs) ≡ true)) × (AllByRecursion IsSoundChange cs × (are_apart cs ≡ true))

counted_reads : (n : ℕ) → IsReader (if_at (changes_at n) are_apart) (flat_map change) (λ cs. ((length cs ≡ n) × Each IsSoundChange (λ _. tt {0}) (λ _ _. true) tt cs) × (are_apart cs ≡ true))
counted_reads n = if_reads (changes_at n) are_apart (flat_map change) (λ cs. (length cs ≡ n) × Each IsSoundChange (λ _. tt {0}) (λ _ _. true) tt cs)
    (each_reads change_at (λ _. tt {0}) (λ _ _. true) change IsSoundChange change_reads tt n)

txn_reads : IsReader txn_at txn_bytes IsSoundTxn
unfolding txn_at
txn_reads = behind_reads (if_at (number_at 1) fits_count) (λ n. if_at (changes_at n) are_apart) length (big_bytes 1) (flat_map change) (λ n. (n < 256 ^ 1) × (fits_count n ≡ true)) IsSoundTxn
    (if_reads (number_at 1) fits_count (big_bytes 1) (λ n. n < 256 ^ 1) byte_reads) (λ cs h. h.0)
    (λ n h. also_reads (if_at (changes_at n) are_apart) (flat_map change) (flat_map change) (λ cs. ((length cs ≡ n) × Each IsSoundChange (λ _. tt {0}) (λ _ _. true) tt cs) × (are_apart cs ≡ true)) (λ cs. (length cs ≡ n) × IsSoundTxn cs) (counted_reads n) (λ cs. refl)
    (λ cs k. (k.0.0, (subst (λ (m : ℕ). (m < 256 ^ 1) × (fits_count m ≡ true)) (sym k.0.0) h, (each_plain IsSoundChange cs k.0.1, k.1))))
    (λ cs k. ((k.0, plain_each IsSoundChange cs k.1.1.0), k.1.1.1)))

-- ---- what is within its limits is lawful

change_lawful : (c : Change) → IsSoundChange c → IsChange c
change_lawful (Put key value) h = let k = and_parts (leb 1 (length key)) (leb (length key) 256) h.0.1 in ((leb-true _ _ k.0, leb-true _ _ k.1), leb-true _ _ h.1.1)
change_lawful (Remove key) h = let k = and_parts (leb 1 (length key)) (leb (length key) 256) h.1 in (leb-true _ _ k.0, leb-true _ _ k.1)

key_sound : (key : List ℕ) → IsStoreKey key → IsFitKey key
key_sound key h = let high = h.1 in (omega arith, and_from (leb 1 (length key)) (leb (length key) 256) (le-leb _ _ h.0) (le-leb _ _ h.1))

change_sound : (c : Change) → IsChange c → IsSoundChange c
change_sound (Put key value) h = let high = h.1 in (key_sound key h.0, (omega arith, le-leb _ _ h.1))
change_sound (Remove key) h = key_sound key h

all_lawful : (cs : List Change) → AllByRecursion IsSoundChange cs → AllByRecursion IsChange cs
all_lawful [] h = tt
all_lawful (c ∷ cs) h = (change_lawful c h.0, all_lawful cs h.1)

all_sound : (cs : List Change) → AllByRecursion IsChange cs → AllByRecursion IsSoundChange cs
all_sound [] h = tt
all_sound (c ∷ cs) h = (change_sound c h.0, all_sound cs h.1)

not_equal : (b : Bool) (x y : List ℕ) → Decides b (x ≡ y) → b ≡ false → x ≢ y
not_equal b x y d e = λ p. both_ways b e (d.1 p)

not_same : (b : Bool) (x y : List ℕ) → Decides b (x ≡ y) → x ≢ y → b ≡ false
not_same true x y d n = absurd (n (d.0 refl))
not_same false x y d n = refl

or_parts : (a b : Bool) → (a || b) ≡ false → (a ≡ false) × (b ≡ false)
or_parts true b e = absurd cc
or_parts false b e = (refl, e)

or_from : (a b : Bool) → a ≡ false → b ≡ false → (a || b) ≡ false
or_from a b p q = rw p q

others_lawful : (c : Change) (cs : List Change) → is_among cs (key_of c) ≡ false → AllByRecursion (λ d. key_of c ≢ key_of d) cs
others_lawful c [] h = tt
others_lawful c (d ∷ cs) h =
    let p = or_parts (bytes_eq (key_of d) (key_of c)) (is_among cs (key_of c)) h in
    ((λ e. not_equal (bytes_eq (key_of d) (key_of c)) (key_of d) (key_of c) (bytes_eq-Decides (key_of d) (key_of c)) p.0 (sym e)), others_lawful c cs p.1)

others_sound : (c : Change) (cs : List Change) → AllByRecursion (λ d. key_of c ≢ key_of d) cs → is_among cs (key_of c) ≡ false
others_sound c [] h = refl
others_sound c (d ∷ cs) h =
    or_from (bytes_eq (key_of d) (key_of c)) (is_among cs (key_of c)) (not_same (bytes_eq (key_of d) (key_of c)) (key_of d) (key_of c) (bytes_eq-Decides (key_of d) (key_of c)) (λ e. h.0 (sym e))) (others_sound c cs h.1)

not_true : (b : Bool) → not b ≡ true → b ≡ false
not_true true e = absurd cc
not_true false e = refl

apart_lawful : (cs : List Change) → are_apart cs ≡ true → AreApart cs
apart_lawful [] h = tt
apart_lawful (c ∷ cs) h =
    let p = and_parts (not (is_among cs (key_of c))) (are_apart cs) h in
    (others_lawful c cs (not_true (is_among cs (key_of c)) p.0), apart_lawful cs p.1)

apart_sound : (cs : List Change) → AreApart cs → are_apart cs ≡ true
apart_sound [] h = refl
apart_sound (c ∷ cs) h = and_from (not (is_among cs (key_of c))) (are_apart cs) (ap not (others_sound c cs h.0)) (apart_sound cs h.1)

txn_lawful : (cs : List Change) → IsSoundTxn cs → IsTxn cs
txn_lawful cs h =
    let k = and_parts (leb 1 (length cs)) (leb (length cs) 8) h.0.1 in
    record { some = leb-true _ _ k.0; few = leb-true _ _ k.1; each = All-from_recursion IsChange cs (all_lawful cs h.1.0); apart = apart_lawful cs h.1.1 }

txn_sound : (cs : List Change) → IsTxn cs → IsSoundTxn cs
txn_sound cs h =
    let some = h.some in
    let few = h.few in
    ((omega arith, and_from (leb 1 (length cs)) (leb (length cs) 8) (le-leb _ _ some) (le-leb _ _ few)), (all_sound cs (recursion_from_All IsChange cs h.each), apart_sound cs h.apart))

pub only_txn : (bytes : List ℕ) (cs : List Change) → SpellsTxn bytes cs → whole txn_at bytes ≡ Some cs
only_txn bytes cs h = ap (λ (l : List ℕ). whole txn_at l) h.spelled ∙ whole_again txn_at txn_bytes IsSoundTxn txn_reads cs (txn_sound cs h.lawful)

pub txn_found : (bytes : List ℕ) (o : Option (Vec Change)) → IsBytes bytes → option_map (λ v. v.items) o ≡ whole txn_at bytes → IfSome o (λ v. SpellsTxn bytes v.items)
txn_found bytes None fits e = tt
txn_found bytes (Some v) fits e =
    let t = whole_takes txn_at txn_bytes IsSoundTxn txn_reads bytes v.items fits (sym e) in
    record { lawful = txn_lawful v.items t.0; spelled = t.1 }

pub txn_none : (bytes : List ℕ) (o : Option (Vec Change)) → option_map (λ v. v.items) o ≡ whole txn_at bytes → IfNone o ((cs : List Change) → SpellsTxn bytes cs → ⊥)
txn_none bytes None e = λ cs h. no_value cs (e ∙ only_txn bytes cs h)
txn_none bytes (Some v) e = tt

pub txns_apart : (cs ds : List Change) (a b more others : List ℕ) → SpellsTxn a cs → SpellsTxn b ds → a ++ more ≡ b ++ others → (cs ≡ ds) × (more ≡ others)
txns_apart cs ds a b more others p q e =
    apart txn_at txn_bytes IsSoundTxn txn_reads cs ds more others (txn_sound cs p.lawful) (txn_sound ds q.lawful)
    (ap (λ (l : List ℕ). l ++ more) (sym p.spelled) ∙ e ∙ ap (λ (l : List ℕ). l ++ others) q.spelled)
