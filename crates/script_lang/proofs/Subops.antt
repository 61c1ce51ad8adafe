-- Words read as sub-operations exactly where they spell them.
use Rattle.std.proofs.Common.{◌≡◌, ℕ, zero, suc, ◌^◌, ◌≤◌, Bool, true, false, List, [], ◌∷◌, ◌++◌, length, Option, Some, None, Result, Ok, Err, if◌then◌else◌, refl, sym, ap, ◌∙◌, arith, bytes_eq, codes, decimal, append-nil}
use Rattle.std.specs.List.{All, AllByRecursion}
use Rattle.std.specs.Option.{option_map}
use Rattle.std.specs.Cmp.Lexicographic.{bytes_decides}
use Rattle.std.proofs.lemmas.List.Elements.{All-from_recursion}
use Rattle.hex.specs.Hex.{IsBytes}
use Rattle.obj_model.specs.Names.{name_fault}
use Rattle.obj_model.specs.Vectors.{vector_fault}
use Rattle.obj_model.specs.declared.sub_op.SubOp.{SubOp}
use Rattle.obj_model.specs.declared.sub_op.SubOp.TheVariants as op
use Rattle.script_lang.specs.declared.verbs.OpVerb.{OpVerb}
use Rattle.script_lang.specs.declared.verbs.OpVerb.TheVariants as verb
use Rattle.script_lang.specs.Verbs.{op_word, op_verbs, op_verb_of, verb_among, verb_of}
use Rattle.obj_model.specs.Fields.{Field, Number, Bytes, Key, After, fields}
use Rattle.script_lang.specs.Spelling.{IsField, IsOp, field_word, op_words, vector_words, bytes_word}
use Rattle.script_lang.specs.Reading.{TakenOp, after_at, after_of, alone, bytes_at, bytes_of, field_at, first_of, if_some, if_vector, is_of_kind, name_at, name_of, number_at, number_of, of_one, of_two, op_at, op_from, op_of, ops_behind, ops_of, ops_within, or_cause, put_first, rest_of, unknown, vector_of, word_at}
use Rattle.script_lang.specs.declared.cause.Cause.{Cause}
use Rattle.script_lang.specs.declared.cause.Cause.TheVariants as cause
use Rattle.obj_model.specs.declared.vector.BadVector.{BadVector}
use Rattle.script_lang.proofs.Options.{bind_ok, fit_ok, by_word_ok, or_cause_ok, only_if_ok}
use Rattle.script_lang.proofs.Names.{name_of-sound}
use Rattle.script_lang.proofs.Numbers.{number_of-sound}
use Rattle.script_lang.proofs.Hex.{bytes_of-sound}

-- the first word, where there is one
pub first_word : (words : List (List ℕ)) (word : List ℕ) → first_of words ≡ Some word
    → words ≡ word ∷ rest_of words
first_word [] word h = cc h
first_word (w ∷ words) word h = ap (λ (x : List ℕ). x ∷ words) (let e : w ≡ word = cc h in e)

if_some-same : (w word : List ℕ) → if_some w ≡ Some word → w ≡ word
if_some-same [] word h = cc h
if_some-same (b ∷ w) word h = cc h

pub word_first : (words : List (List ℕ)) (word : List ℕ) → word_at words ≡ Some word
    → words ≡ word ∷ rest_of words
word_first [] word h = cc h
word_first (w ∷ words) word h = ap (λ (x : List ℕ). x ∷ words) (if_some-same w word h)

field_by_test : (w word : List ℕ) (semicolon : Bool)
    → (if semicolon then None else if_some w) ≡ Some word → w ≡ word
field_by_test w word true h = cc h
field_by_test w word false h = if_some-same w word h

field_first : (words : List (List ℕ)) (word : List ℕ) → field_at words ≡ Some word
    → words ≡ word ∷ rest_of words
field_first [] word h = cc h
field_first (w ∷ words) word h =
    ap (λ (x : List ℕ). x ∷ words) (field_by_test w word (bytes_eq w (codes ";")) h)

number_at-sound : (words : List (List ℕ)) (n : ℕ) → number_at words ≡ Ok n
    → (words ≡ decimal n ∷ rest_of words) × (n ≤ 2 ^ 62)
number_at-sound words n h =
    let b = fit_ok _ number_of (field_at words) n h in
    let s = number_of-sound b.0 n b.2 in
    (field_first words b.0 b.1 ∙ ap (λ (x : List ℕ). x ∷ rest_of words) s.0, s.1)

bytes_at-sound : (words : List (List ℕ)) (bytes : List ℕ) → bytes_at words ≡ Ok bytes
    → (words ≡ bytes_word bytes ∷ rest_of words) × IsBytes bytes
bytes_at-sound words bytes h =
    let b = fit_ok _ bytes_of (field_at words) bytes h in
    let s = bytes_of-sound b.0 bytes b.2 in
    (field_first words b.0 b.1 ∙ ap (λ (x : List ℕ). x ∷ rest_of words) s.0, s.1)

-- a sub-operation with the words behind it comes from its words
pub record IsTaken (words : List (List ℕ)) (op : SubOp) (rest : List (List ℕ)) : Type 0 where
  pub spelled : words ≡ op_words op ++ rest
  pub lawful : IsOp op

name_at-sound : (words : List (List ℕ)) (name : List ℕ) → name_at words ≡ Ok name
    → (words ≡ name ∷ rest_of words) × (name_fault name ≡ None)
name_at-sound words name h =
    let b = fit_ok _ name_of (field_at words) name h in
    let s = name_of-sound b.0 name b.2 in
    (field_first words b.0 b.1 ∙ ap (λ (x : List ℕ). x ∷ rest_of words) s.0, s.1)

-- a word reads as the key to go on from, or none, exactly where it is its word
some_of_map : (o : Option (List ℕ)) (after : Option (List ℕ)) → option_map Some o ≡ Some after
    → (name : List ℕ) × (o ≡ Some name) × (after ≡ Some name)
some_of_map (Some name) after h = (name, refl, sym (cc h))
some_of_map None after h = cc h

after_by_test : (word : List ℕ) (after : Option (List ℕ)) (test : Bool)
    → bytes_eq word (codes "-") ≡ test
    → (if test then Some None else option_map Some (name_of word)) ≡ Some after
    → (word ≡ field_word (After after)) × IsField (After after)
after_by_test word after true is h =
    let e : None ≡ after = cc h in
    rw (← e) ((bytes_decides word (codes "-")).0 is, tt)
after_by_test word after false is h =
    let m = some_of_map (name_of word) after h in
    let s = name_of-sound word m.0 m.1 in
    rw m.2 s

after_of-sound : (word : List ℕ) (after : Option (List ℕ)) → after_of word ≡ Some after
    → (word ≡ field_word (After after)) × IsField (After after)
unfolding after_of
after_of-sound word after h = after_by_test word after _ refl h

after_at-sound : (words : List (List ℕ)) (after : Option (List ℕ)) → after_at words ≡ Ok after
    → (words ≡ field_word (After after) ∷ rest_of words) × IsField (After after)
after_at-sound words after h =
    let b = fit_ok _ after_of (field_at words) after h in
    let s = after_of-sound b.0 after b.2 in
    (field_first words b.0 b.1 ∙ ap (λ (x : List ℕ). x ∷ rest_of words) s.0, s.1)

-- ---- verbs
among_by_test : (word : List ℕ) (v : OpVerb) (verbs : List OpVerb) (found : OpVerb)
    → (verb_among verbs word ≡ Some found → word ≡ op_word found)
    → (test : Bool) → bytes_eq word (op_word v) ≡ test
    → (if test then Some v else verb_among verbs word) ≡ Some found → word ≡ op_word found
among_by_test word v verbs found ih true is h =
    let e : v ≡ found = cc h in
    (bytes_decides word (op_word v)).0 is ∙ ap op_word e
among_by_test word v verbs found ih false is h = ih h

verb_among-sound : (word : List ℕ) (verbs : List OpVerb) (found : OpVerb)
    → verb_among verbs word ≡ Some found
    → word ≡ op_word found
verb_among-sound word [] found h = cc h
verb_among-sound word (v ∷ verbs) found h =
    among_by_test word v verbs found (verb_among-sound word verbs found) _ refl h

op_verb_of-sound : (word : List ℕ) (v : OpVerb) → op_verb_of word ≡ Some v → word ≡ op_word v
unfolding op_verb_of
op_verb_of-sound word v h = verb_among-sound word op_verbs v h

-- ---- fields
-- what a reader reads of the first word is a field's value, and the word is the field's
abbrev IsSound : {A : Type 0} → (List (List ℕ) → Result A Cause) → (A → Field) → Type 0
IsSound {A} read field =
    (words : List (List ℕ)) (x : A) → read words ≡ Ok x
    → (words ≡ field_word (field x) ∷ rest_of words) × IsField (field x)

-- sub-operations of a verb and one field, however they are made
record HasOne {A : Type 0} (v : OpVerb) (field : A → Field) (make : A → SubOp) : Type 0 where
  verb : (x : A) → verb_of (make x) ≡ v
  fields : (x : A) → fields (make x) ≡ field x ∷ []

record HasTwo {A B : Type 0} (v : OpVerb) (first : A → Field) (second : B → Field) (make : A → B
    → SubOp) : Type 0 where
  verb : (x : A) (y : B) → verb_of (make x y) ≡ v
  fields : (x : A) (y : B) → fields (make x y) ≡ first x ∷ second y ∷ []

of_one-sound : {A : Type 0} (read : List (List ℕ) → Result A Cause) (field : A → Field) (make : A
    → SubOp) (v : OpVerb)
    → IsSound read field → HasOne v field make → (words : List (List ℕ)) (t : TakenOp)
    → of_one read make words ≡ Ok t
    → IsTaken (op_word v ∷ words) t.0 t.1
of_one-sound read field make v sound has words t h =
    let b = bind_ok (read words) _ t h in
    let s = sound words b.0 b.1 in
    let e : (make b.0, rest_of words) ≡ t = cc b.2 in
    rw (← e) (record {
      spelled = rw (has.verb b.0, has.fields b.0) (ap (λ (ws : List (List ℕ)). op_word v ∷ ws) s.0);
      lawful = rw (has.fields b.0) (s.1, tt);
    })

of_two-sound : {A B : Type 0} (read : List (List ℕ) → Result A Cause) (next : List (List ℕ)
    → Result B Cause) (first : A → Field)
    (second : B → Field) (make : A → B → SubOp) (v : OpVerb) → IsSound read first
    → IsSound next second
    → HasTwo v first second make → (words : List (List ℕ)) (t : TakenOp)
    → of_two read next make words ≡ Ok t
    → IsTaken (op_word v ∷ words) t.0 t.1
of_two-sound read next first second make v one two has words t h =
    let a = bind_ok (read words) _ t h in
    let b = bind_ok (next (rest_of words)) _ t a.2 in
    let r = one words a.0 a.1 in
    let s = two (rest_of words) b.0 b.1 in
    let e : (make a.0 b.0, rest_of (rest_of words)) ≡ t = cc b.2 in
    rw (← e) (record {
      spelled =
          rw (has.verb a.0 b.0, has.fields a.0 b.0)
          (ap (λ (ws : List (List ℕ)). op_word v ∷ ws) (r.0
          ∙ ap (λ (ws : List (List ℕ)). field_word (first a.0) ∷ ws) s.0));
      lawful = rw (has.fields a.0 b.0) (r.1, (s.1, tt));
    })

alone-sound : (o : SubOp) → fields o ≡ [] → (words : List (List ℕ)) (t : TakenOp)
    → alone o words ≡ Ok t
    → IsTaken (op_word (verb_of o) ∷ words) t.0 t.1
alone-sound o none words t h =
    let e : (o, words) ≡ t = cc h in
    rw (← e) (record { spelled = rw none refl; lawful = rw none tt })

-- a reading of one field alone, for a verb of one or two fields
number : IsSound number_at Number
number words n h = number_at-sound words n h

hex : IsSound bytes_at Bytes
hex words bytes h = bytes_at-sound words bytes h

key : IsSound name_at Key
key words name h = name_at-sound words name h

after : IsSound after_at After
after words a h = after_at-sound words a h

op_of-sound : (v : OpVerb) (words : List (List ℕ)) (t : TakenOp) → op_of v words ≡ Ok t
    → IsTaken (op_word v ∷ words) t.0 t.1
op_of-sound verb.Create words t h = alone-sound op.Create refl words t h
op_of-sound verb.WriteFull words t h =
    of_one-sound bytes_at Bytes op.WriteFull verb.WriteFull hex (record {
      verb = λ x. refl;
      fields = λ x. refl;
    }) words t h
op_of-sound verb.Write words t h =
    of_two-sound number_at bytes_at Number Bytes op.Write verb.Write number hex
    (record { verb = λ x y. refl; fields = λ x y. refl }) words t h
op_of-sound verb.Append words t h =
    of_one-sound bytes_at Bytes op.Append verb.Append hex (record {
      verb = λ x. refl;
      fields = λ x. refl;
    }) words t h
op_of-sound verb.Zero words t h =
    of_two-sound number_at number_at Number Number op.Zero verb.Zero number number
    (record { verb = λ x y. refl; fields = λ x y. refl }) words t h
op_of-sound verb.Truncate words t h =
    of_one-sound number_at Number op.Truncate verb.Truncate number (record {
      verb = λ x. refl;
      fields = λ x. refl;
    }) words t h
op_of-sound verb.Remove words t h = alone-sound op.Remove refl words t h
op_of-sound verb.SetXattr words t h =
    of_two-sound name_at bytes_at Key Bytes op.SetXattr verb.SetXattr key hex
    (record { verb = λ x y. refl; fields = λ x y. refl }) words t h
op_of-sound verb.RmXattr words t h =
    of_one-sound name_at Key op.RmXattr verb.RmXattr key (record {
      verb = λ x. refl;
      fields = λ x. refl;
    }) words t h
op_of-sound verb.OmapSet words t h =
    of_two-sound name_at bytes_at Key Bytes op.OmapSet verb.OmapSet key hex
    (record { verb = λ x y. refl; fields = λ x y. refl }) words t h
op_of-sound verb.OmapRm words t h =
    of_one-sound name_at Key op.OmapRm verb.OmapRm key (record {
      verb = λ x. refl;
      fields = λ x. refl;
    }) words t h
op_of-sound verb.OmapClear words t h = alone-sound op.OmapClear refl words t h
op_of-sound verb.AssertExists words t h = alone-sound op.AssertExists refl words t h
op_of-sound verb.AssertVer words t h =
    of_one-sound number_at Number op.AssertVer verb.AssertVer number (record {
      verb = λ x. refl;
      fields = λ x. refl;
    }) words t h
op_of-sound verb.CmpXattr words t h =
    of_two-sound name_at bytes_at Key Bytes op.CmpXattr verb.CmpXattr key hex
    (record { verb = λ x y. refl; fields = λ x y. refl }) words t h
op_of-sound verb.Read words t h =
    of_two-sound number_at number_at Number Number op.Read verb.Read number number
    (record { verb = λ x y. refl; fields = λ x y. refl }) words t h
op_of-sound verb.Stat words t h = alone-sound op.Stat refl words t h
op_of-sound verb.GetXattr words t h =
    of_one-sound name_at Key op.GetXattr verb.GetXattr key (record {
      verb = λ x. refl;
      fields = λ x. refl;
    }) words t h
op_of-sound verb.ListXattrs words t h = alone-sound op.ListXattrs refl words t h
op_of-sound verb.OmapGet words t h =
    of_one-sound name_at Key op.OmapGet verb.OmapGet key (record {
      verb = λ x. refl;
      fields = λ x. refl;
    }) words t h
op_of-sound verb.OmapList words t h =
    of_two-sound after_at number_at After Number op.OmapList verb.OmapList after number
    (record { verb = λ x y. refl; fields = λ x y. refl }) words t h

pub op_at-sound : (words : List (List ℕ)) (t : TakenOp) → op_at words ≡ Ok t → IsTaken words t.0 t.1
op_at-sound words t h =
    let b = by_word_ok (op_from (rest_of words)) (word_at words) t h in
    let v = bind_ok (or_cause (unknown b.0 cause.Subop) (op_verb_of b.0)) _ t b.2 in
    let verb = op_verb_of-sound b.0 v.0 (or_cause_ok _ (op_verb_of b.0) v.0 v.1) in
    rw (word_first words b.0 b.1
    ∙ ap (λ (x : List ℕ). x ∷ rest_of words) verb) (op_of-sound v.0 (rest_of words) t v.2)

-- words spell sub-operations
pub record AreSpelled (words : List (List ℕ)) (ops : List SubOp) : Type 0 where
  pub spelled : words ≡ vector_words ops
  pub lawful : AllByRecursion IsOp ops
  pub some : 1 ≤ length ops

put_first-ok : (op : SubOp) (others : Result (List SubOp) Cause) (ops : List SubOp)
    → put_first op others ≡ Ok ops
    → (more : List SubOp) × (others ≡ Ok more) × (op ∷ more ≡ ops)
put_first-ok op (Ok more) ops h = (more, refl, cc h)
put_first-ok op (Err why) ops h = cc h

-- one more in front
spelled_in_front : (op : SubOp) (words : List (List ℕ)) (more : List SubOp) → IsOp op
    → AreSpelled words more
    → AreSpelled (op_words op ++ codes ";" ∷ words) (op ∷ more)
spelled_in_front op words [] h s = absurd (omega (arith, s.some))
spelled_in_front op words (next ∷ more) h s =
    record {
      spelled = ap (λ (ws : List (List ℕ)). op_words op ++ codes ";" ∷ ws) s.spelled;
      lawful = (h, s.lawful);
      some = omega arith;
    }

behind_by_test : (others : List (List ℕ) → Result (List SubOp) Cause)
    → ((words : List (List ℕ)) (ops : List SubOp) → others words ≡ Ok ops → AreSpelled words ops)
    → (op : SubOp) (word : List ℕ) (words : List (List ℕ)) (ops : List SubOp) (test : Bool)
    → bytes_eq word (codes ";") ≡ test
    → (if test then put_first op (others words) else Err cause.Words) ≡ Ok ops → IsOp op
    → AreSpelled (op_words op ++ word ∷ words) ops
behind_by_test others ih op word words ops true is h lawful =
    let e : word ≡ codes ";" = (bytes_decides word (codes ";")).0 is in
    let p = put_first-ok op (others words) ops h in
    rw (e, ← p.2) (spelled_in_front op words p.0 lawful (ih words p.0 p.1))
behind_by_test others ih op word words ops false is h lawful = cc h

behind-sound : (others : List (List ℕ) → Result (List SubOp) Cause)
    → ((words : List (List ℕ)) (ops : List SubOp) → others words ≡ Ok ops → AreSpelled words ops)
    → (op : SubOp) (rest : List (List ℕ)) (ops : List SubOp) → ops_behind others op rest ≡ Ok ops
    → IsOp op
    → AreSpelled (op_words op ++ rest) ops
behind-sound others ih op [] ops h lawful =
    let e : op ∷ [] ≡ ops = cc h in
    rw (← e) (record {
      spelled = append-nil (op_words op);
      lawful = (lawful, tt);
      some = omega arith;
    })
behind-sound others ih op (word ∷ words) ops h lawful =
    behind_by_test others ih op word words ops _ refl h lawful

pub ops_within-sound : (most : ℕ) (words : List (List ℕ)) (ops : List SubOp)
    → ops_within most words ≡ Ok ops
    → AreSpelled words ops
unfolding ops_within
ops_within-sound zero words ops h = cc h
ops_within-sound (suc most) words ops h =
    let b = bind_ok (op_at words) _ ops h in
    let s = op_at-sound words b.0 b.1 in
    rw s.spelled (behind-sound (ops_within most) (ops_within-sound most) b.0.0 b.0.1 ops b.2
    s.lawful)

-- each sub-operation has a word
pub op_words_some : (o : SubOp) → 1 ≤ length (op_words o)
op_words_some o = omega arith

if_vector-ok : (fault : Option BadVector) (ops vector : List SubOp)
    → if_vector fault ops ≡ Ok vector → (fault ≡ None) × (ops ≡ vector)
if_vector-ok None ops vector h = (refl, cc h)
if_vector-ok (Some fault) ops vector h = cc h

pub vector_of-sound : (writes : Bool) (words : List (List ℕ)) (ops : List SubOp)
    → vector_of writes words ≡ Ok ops
    → (words ≡ vector_words ops) × All IsOp ops × (vector_fault ops ≡ None)
    × (is_of_kind writes ops ≡ true)
unfolding vector_of
vector_of-sound writes words ops h =
    let b = bind_ok (ops_of words) _ ops h in
    let d = bind_ok (if_vector (vector_fault b.0) b.0) _ ops b.2 in
    let kind = only_if_ok (is_of_kind writes d.0) _ d.0 ops d.2 in
    let s = ops_within-sound (length words) words b.0 b.1 in
    let f = if_vector-ok (vector_fault b.0) b.0 d.0 d.1 in
    let all = All-from_recursion IsOp b.0 s.lawful in
    let same : b.0 ≡ ops = f.1 ∙ kind.1 in
    (rw (← same) s.spelled, rw (← same) all, rw (← same) f.0, rw (← kind.1) kind.0)
