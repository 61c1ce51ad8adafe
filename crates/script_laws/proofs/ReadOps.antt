-- The words of sub-operations read as them.
use Rattle.std.proofs.Common.{◌≡◌, ℕ, zero, suc, ◌^◌, ◌≤◌, Bool, true, false, List, [], ◌∷◌, ◌++◌, length, map, Option, Some, None, Ok, refl, sym, ap, ◌∙◌, arith, bytes_eq, codes, decimal, append-nil, length-append}
use Rattle.std.specs.List.{All, AllByRecursion}
use Rattle.std.proofs.lemmas.List.Elements.{recursion_from_All}
use Rattle.hex.specs.Hex.{IsBytes}
use Rattle.obj_model.specs.Fields.{Field, Number, Bytes, Key, After, fields}
use Rattle.obj_model.specs.Names.{name_fault}
use Rattle.obj_model.specs.Vectors.{vector_fault}
use Rattle.obj_model.specs.declared.sub_op.SubOp.{SubOp}
use Rattle.obj_model.specs.declared.sub_op.SubOp.TheVariants as op
use Rattle.script_lang.specs.declared.verbs.OpVerb.{OpVerb}
use Rattle.script_lang.specs.declared.verbs.OpVerb.TheVariants as verb
use Rattle.script_lang.specs.Verbs.{op_word, op_verb_of, verb_of}
use Rattle.script_lang.specs.Spelling.{IsField, IsOp, field_word, op_words, vector_words, bytes_word}
use Rattle.script_lang.specs.Reading.{after_at, after_of, bytes_at, is_of_kind, name_at, number_at, op_at, op_of, ops_within, vector_of}
use Rattle.script_lang.proofs.Joined.{IsWord, IsWords, IsWords-append, field_at-word, literal_is_word, word_at-word}
use Rattle.script_lang.proofs.Names.{name_of-name, name_is_not, name_is_word}
use Rattle.script_lang.proofs.Numbers.{number_of-decimal, decimal_is_field, decimal_is_word}
use Rattle.script_lang.proofs.Hex.{bytes_of-word, bytes_is_field, bytes_is_word}
use Rattle.script_lang.proofs.Subops.{op_words_some}

after_of-word : (after : Option (List ℕ)) → IsField (After after)
    → after_of (field_word (After after)) ≡ Some after
unfolding after_of
after_of-word None h = refl
after_of-word (Some name) h =
    let dash = name_is_not name (codes "-") (bytes_eq name (codes "-")) refl h refl in
    rw (dash, name_of-name name h) refl

-- a verb's word is the verb's
op_verb_of-word : (v : OpVerb) → op_verb_of (op_word v) ≡ Some v
unfolding op_verb_of
op_verb_of-word verb.Create = refl
op_verb_of-word verb.WriteFull = refl
op_verb_of-word verb.Write = refl
op_verb_of-word verb.Append = refl
op_verb_of-word verb.Zero = refl
op_verb_of-word verb.Truncate = refl
op_verb_of-word verb.Remove = refl
op_verb_of-word verb.SetXattr = refl
op_verb_of-word verb.RmXattr = refl
op_verb_of-word verb.OmapSet = refl
op_verb_of-word verb.OmapRm = refl
op_verb_of-word verb.OmapClear = refl
op_verb_of-word verb.AssertExists = refl
op_verb_of-word verb.AssertVer = refl
op_verb_of-word verb.CmpXattr = refl
op_verb_of-word verb.Read = refl
op_verb_of-word verb.Stat = refl
op_verb_of-word verb.GetXattr = refl
op_verb_of-word verb.ListXattrs = refl
op_verb_of-word verb.OmapGet = refl
op_verb_of-word verb.OmapList = refl

number_reads : (n : ℕ) (rest : List (List ℕ)) → n ≤ 2 ^ 62 → number_at (decimal n ∷ rest) ≡ Ok n
number_reads n rest h =
    rw (
      field_at-word (decimal n) rest (decimal_is_word n h) (decimal_is_field n h),
      number_of-decimal n h,
    ) refl

bytes_read : (bytes : List ℕ) (rest : List (List ℕ)) → IsBytes bytes
    → bytes_at (bytes_word bytes ∷ rest) ≡ Ok bytes
bytes_read bytes rest h =
    rw (
      field_at-word (bytes_word bytes) rest (bytes_is_word bytes h) (bytes_is_field bytes h),
      bytes_of-word bytes h,
    ) refl

name_is_field : (name : List ℕ) → name_fault name ≡ None → bytes_eq name (codes ";") ≡ false
name_is_field name h = name_is_not name (codes ";") (bytes_eq name (codes ";")) refl h refl

key_reads : (name : List ℕ) (rest : List (List ℕ)) → name_fault name ≡ None
    → name_at (name ∷ rest) ≡ Ok name
key_reads name rest h =
    rw (
      field_at-word name rest (name_is_word name h) (name_is_field name h),
      name_of-name name h,
    ) refl

after_reads : (after : Option (List ℕ)) (rest : List (List ℕ)) → IsField (After after)
    → after_at (field_word (After after) ∷ rest) ≡ Ok after
after_reads None rest h = rw (after_of-word None h) refl
after_reads (Some name) rest h =
    rw (
      field_at-word name rest (name_is_word name h) (name_is_field name h),
      after_of-word (Some name) h,
    ) refl

-- the words of a sub-operation's fields read as it
op_of-fields : (o : SubOp) (rest : List (List ℕ)) → IsOp o
    → op_of (verb_of o) (map field_word (fields o) ++ rest) ≡ Ok (o, rest)
op_of-fields op.Create rest h = refl
op_of-fields (op.WriteFull bytes) rest h = rw (bytes_read bytes rest h.0) refl
op_of-fields (op.Write off bytes) rest h =
    rw (number_reads off (bytes_word bytes ∷ rest) h.0, bytes_read bytes rest h.1.0) refl
op_of-fields (op.Append bytes) rest h = rw (bytes_read bytes rest h.0) refl
op_of-fields (op.Zero off len) rest h =
    rw (number_reads off (decimal len ∷ rest) h.0, number_reads len rest h.1.0) refl
op_of-fields (op.Truncate size) rest h = rw (number_reads size rest h.0) refl
op_of-fields op.Remove rest h = refl
op_of-fields (op.SetXattr k bytes) rest h =
    rw (key_reads k (bytes_word bytes ∷ rest) h.0, bytes_read bytes rest h.1.0) refl
op_of-fields (op.RmXattr k) rest h = rw (key_reads k rest h.0) refl
op_of-fields (op.OmapSet k bytes) rest h =
    rw (key_reads k (bytes_word bytes ∷ rest) h.0, bytes_read bytes rest h.1.0) refl
op_of-fields (op.OmapRm k) rest h = rw (key_reads k rest h.0) refl
op_of-fields op.OmapClear rest h = refl
op_of-fields op.AssertExists rest h = refl
op_of-fields (op.AssertVer ver) rest h = rw (number_reads ver rest h.0) refl
op_of-fields (op.CmpXattr k bytes) rest h =
    rw (key_reads k (bytes_word bytes ∷ rest) h.0, bytes_read bytes rest h.1.0) refl
op_of-fields (op.Read off len) rest h =
    rw (number_reads off (decimal len ∷ rest) h.0, number_reads len rest h.1.0) refl
op_of-fields op.Stat rest h = refl
op_of-fields (op.GetXattr k) rest h = rw (key_reads k rest h.0) refl
op_of-fields op.ListXattrs rest h = refl
op_of-fields (op.OmapGet k) rest h = rw (key_reads k rest h.0) refl
op_of-fields (op.OmapList a max) rest h =
    rw (after_reads a (decimal max ∷ rest) h.0, number_reads max rest h.1.0) refl

verb_is_word : (v : OpVerb) → IsWord (op_word v)
verb_is_word verb.Create = literal_is_word (op_word verb.Create) refl
verb_is_word verb.WriteFull = literal_is_word (op_word verb.WriteFull) refl
verb_is_word verb.Write = literal_is_word (op_word verb.Write) refl
verb_is_word verb.Append = literal_is_word (op_word verb.Append) refl
verb_is_word verb.Zero = literal_is_word (op_word verb.Zero) refl
verb_is_word verb.Truncate = literal_is_word (op_word verb.Truncate) refl
verb_is_word verb.Remove = literal_is_word (op_word verb.Remove) refl
verb_is_word verb.SetXattr = literal_is_word (op_word verb.SetXattr) refl
verb_is_word verb.RmXattr = literal_is_word (op_word verb.RmXattr) refl
verb_is_word verb.OmapSet = literal_is_word (op_word verb.OmapSet) refl
verb_is_word verb.OmapRm = literal_is_word (op_word verb.OmapRm) refl
verb_is_word verb.OmapClear = literal_is_word (op_word verb.OmapClear) refl
verb_is_word verb.AssertExists = literal_is_word (op_word verb.AssertExists) refl
verb_is_word verb.AssertVer = literal_is_word (op_word verb.AssertVer) refl
verb_is_word verb.CmpXattr = literal_is_word (op_word verb.CmpXattr) refl
verb_is_word verb.Read = literal_is_word (op_word verb.Read) refl
verb_is_word verb.Stat = literal_is_word (op_word verb.Stat) refl
verb_is_word verb.GetXattr = literal_is_word (op_word verb.GetXattr) refl
verb_is_word verb.ListXattrs = literal_is_word (op_word verb.ListXattrs) refl
verb_is_word verb.OmapGet = literal_is_word (op_word verb.OmapGet) refl
verb_is_word verb.OmapList = literal_is_word (op_word verb.OmapList) refl

pub op_at-words : (o : SubOp) (rest : List (List ℕ)) → IsOp o
    → op_at (op_words o ++ rest) ≡ Ok (o, rest)
op_at-words o rest h =
    let word =
    word_at-word (op_word (verb_of o)) (map field_word (fields o)
    ++ rest) (verb_is_word (verb_of o)) in
    rw (word, op_verb_of-word (verb_of o)) (op_of-fields o rest h)

field_is_word : (f : Field) → IsField f → IsWord (field_word f)
field_is_word (Number n) h = decimal_is_word n h
field_is_word (Bytes bytes) h = bytes_is_word bytes h
field_is_word (Key k) h = name_is_word k h
field_is_word (After None) h = literal_is_word (codes "-") refl
field_is_word (After (Some k)) h = name_is_word k h

fields_are_words : (fs : List Field) → AllByRecursion IsField fs → IsWords (map field_word fs)
fields_are_words [] h = tt
fields_are_words (f ∷ fs) h = (field_is_word f h.0, fields_are_words fs h.1)

pub op_is_words : (o : SubOp) → IsOp o → IsWords (op_words o)
op_is_words o h = (verb_is_word (verb_of o), fields_are_words (fields o) h)

pub vector_is_words : (ops : List SubOp) → AllByRecursion IsOp ops → IsWords (vector_words ops)
vector_is_words [] h = tt
vector_is_words (op ∷ []) h = op_is_words op h.0
vector_is_words (op ∷ next ∷ ops) h =
    IsWords-append (op_words op) (codes ";" ∷ vector_words (next ∷ ops)) (op_is_words op h.0)
    (literal_is_word (codes ";") refl, vector_is_words (next ∷ ops) h.1)

pub ops_within-words : (op : SubOp) (ops : List SubOp) → AllByRecursion IsOp (op ∷ ops) → (most : ℕ)
    → length (op ∷ ops) ≤ most
    → ops_within most (vector_words (op ∷ ops)) ≡ Ok (op ∷ ops)
unfolding ops_within
ops_within-words op ops h zero le = absurd (omega arith)
ops_within-words op [] h (suc most) le =
    let at : op_at (op_words op) ≡ Ok (op, []) = ap op_at (sym (append-nil (op_words op)))
    ∙ op_at-words op [] h.0 in
    rw at refl
ops_within-words op (next ∷ ops) h (suc most) le =
    let at = op_at-words op (codes ";" ∷ vector_words (next ∷ ops)) h.0 in
    let ih = ops_within-words next ops h.1 most (omega arith) in
    rw (at, ih) refl

vector_words_enough : (ops : List SubOp) → length ops ≤ length (vector_words ops)
vector_words_enough [] = omega arith
vector_words_enough (op ∷ []) = omega (arith, op_words_some op)
vector_words_enough (op ∷ next ∷ ops) =
    omega (
      arith,
      op_words_some op,
      vector_words_enough (next ∷ ops),
      length-append (op_words op) (codes ";" ∷ vector_words (next ∷ ops)),
    )

pub vector_of-words : (writes : Bool) (ops : List SubOp) → All IsOp ops → vector_fault ops ≡ None
    → is_of_kind writes ops ≡ true
    → vector_of writes (vector_words ops) ≡ Ok ops
unfolding vector_of
vector_of-words writes [] h f k = cc f
vector_of-words writes (op ∷ ops) h f k =
    let read =
    ops_within-words op ops (recursion_from_All IsOp (op ∷ ops) h)
    (length (vector_words (op ∷ ops))) (vector_words_enough (op ∷ ops)) in
    rw (read, f, k) refl
