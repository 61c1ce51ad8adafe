-- Reading sub-operations one after another.
use Rattle.std.proofs.Common.{◌≡◌, ℕ, zero, suc, ◌<◌, ◌≤◌, true, false, List, [], ◌∷◌, ◌++◌, length, Some, None, Result, Ok, Err, is_err, refl, sym, ap, ◌∙◌, arith, bytes_eq, codes, append_assoc, length-append}
use Rattle.obj_model.specs.declared.sub_op.SubOp.{SubOp}
use Rattle.script_lang.specs.Spelling.{op_words}
use Rattle.script_lang.specs.Reading.{TakenOp, op_at, ops_within, ops_of, put_first, first_of, rest_of}
use Rattle.script_lang.specs.Outcomes.{Takes, IsParse}
use Rattle.script_lang.specs.declared.cause.Cause.{Cause}
use Rattle.script_lang.specs.declared.cause.Cause.TheVariants as cause
use Rattle.script_lang.specs.declared.cause.LineFault.{LineFault}
use Rattle.script_lang.specs.declared.cause.LineFault.TheVariants.{Wrong, NoMemory}
use Rattle.std.specs.Prelude.{OnOk}
use Rattle.script_lang.proofs.Subops.{op_at-sound, op_words_some, first_word}

-- sub-operations in front of others
abbrev pub ahead : List SubOp → Result (List SubOp) Cause → Result (List SubOp) Cause
ahead done (Err why) = Err why
ahead done (Ok ops) = Ok (done ++ ops)

-- these were read, and with the words that are left they are what the whole says
pub record Left (done : List SubOp) (words whole : List (List ℕ)) : Type 0 where
  pub most : ℕ
  pub enough : length words ≤ most
  pub same : ahead done (ops_within most words) ≡ ops_of whole

-- a sub-operation shortens the words
pub op_at-shorter : (words : List (List ℕ)) (op : SubOp) (rest : List (List ℕ))
    → op_at words ≡ Ok (op, rest)
    → length rest < length words
op_at-shorter words op rest h =
    let s = op_at-sound words (op, rest) h in
    omega (arith, ap length s.spelled, length-append (op_words op) rest, op_words_some op)

ahead_put_first : (done : List SubOp) (op : SubOp) (o : Result (List SubOp) Cause)
    → ahead done (put_first op o) ≡ ahead (done ++ op ∷ []) o
ahead_put_first done op (Err why) = refl
ahead_put_first done op (Ok ops) = ap Ok (sym (append_assoc done (op ∷ []) ops))

-- what one sub-operation gives, by what stands behind it
within-more : (most : ℕ) (words : List (List ℕ)) (op : SubOp) (word : List ℕ) (rest : List (List ℕ))
    → op_at words ≡ Ok (op, word ∷ rest) → bytes_eq word (codes ";") ≡ true
    → ops_within (suc most) words ≡ put_first op (ops_within most rest)
unfolding ops_within
within-more most words op word rest at semicolon = rw (at, semicolon) refl

no_words : (words : List (List ℕ)) → length words ≤ 0 → words ≡ []
no_words [] h = refl
no_words (word ∷ words) h = absurd (omega arith)

within-none : (most : ℕ) (words : List (List ℕ)) (why : Cause) → length words ≤ most
    → op_at words ≡ Err why
    → ops_within most words ≡ Err why
unfolding ops_within
within-none zero words why enough at =
    let none : op_at [] ≡ Err why = ap op_at (sym (no_words words enough)) ∙ at in
    let same : cause.Words ≡ why = cc none in
    ap Err same
within-none (suc most) words why enough at = rw at refl

within-other : (most : ℕ) (words : List (List ℕ)) (op : SubOp) (word : List ℕ)
    (rest : List (List ℕ)) → length words ≤ most
    → op_at words ≡ Ok (op, word ∷ rest) → bytes_eq word (codes ";") ≡ false
    → ops_within most words ≡ Err cause.Words
unfolding ops_within
within-other zero words op word rest enough at other =
    absurd (omega (arith, op_at-shorter words op (word ∷ rest) at))
within-other (suc most) words op word rest enough at other = rw (at, other) refl

within-last : (most : ℕ) (words : List (List ℕ)) (op : SubOp) → length words ≤ most
    → op_at words ≡ Ok (op, [])
    → ops_within most words ≡ Ok (op ∷ [])
unfolding ops_within
within-last zero words op enough at = absurd (omega (arith, op_at-shorter words op [] at))
within-last (suc most) words op enough at = rw at refl

-- one more, with a semicolon behind it
left_more : (most : ℕ) (done : List SubOp) (words whole : List (List ℕ)) (op : SubOp)
    (word : List ℕ) (rest : List (List ℕ))
    → length words ≤ most → ahead done (ops_within most words) ≡ ops_of whole
    → op_at words ≡ Ok (op, word ∷ rest) → bytes_eq word (codes ";") ≡ true
    → Left (done ++ op ∷ []) rest whole
left_more zero done words whole op word rest enough same at semicolon =
    absurd (omega (arith, op_at-shorter words op (word ∷ rest) at))
left_more (suc most) done words whole op word rest enough same at semicolon =
    record {
      most = most;
      enough = omega (arith, op_at-shorter words op (word ∷ rest) at);
      same =
          sym (ahead_put_first done op (ops_within most rest))
          ∙ ap (ahead done) (sym (within-more most words op word rest at semicolon)) ∙ same;
    }

pub Left-more : (done : List SubOp) (words whole : List (List ℕ)) (op : SubOp) (word : List ℕ)
    (rest : List (List ℕ))
    → Left done words whole → op_at words ≡ Ok (op, word ∷ rest) → bytes_eq word (codes ";") ≡ true
    → Left (done ++ op ∷ []) rest whole
Left-more done words whole op word rest l at semicolon =
    left_more l.most done words whole op word rest l.enough l.same at semicolon

-- no sub-operation
pub Left-none : (done : List SubOp) (words whole : List (List ℕ)) (why : Cause)
    → Left done words whole → op_at words ≡ Err why
    → ops_of whole ≡ Err why
Left-none done words whole why l at = sym l.same
    ∙ ap (ahead done) (within-none l.most words why l.enough at)

-- another word than a semicolon behind one
pub Left-other : (done : List SubOp) (words whole : List (List ℕ)) (op : SubOp) (word : List ℕ)
    (rest : List (List ℕ))
    → Left done words whole → op_at words ≡ Ok (op, word ∷ rest) → bytes_eq word (codes ";") ≡ false
    → ops_of whole ≡ Err cause.Words
Left-other done words whole op word rest l at other =
    sym l.same ∙ ap (ahead done) (within-other l.most words op word rest l.enough at other)

-- the last one
pub Left-last : (done : List SubOp) (words whole : List (List ℕ)) (op : SubOp)
    → Left done words whole → op_at words ≡ Ok (op, []) → ops_of whole ≡ Ok (done ++ op ∷ [])
Left-last done words whole op l at = sym l.same
    ∙ ap (ahead done) (within-last l.most words op l.enough at)

-- ---- the steps of the loop, in its words

pub fault_told : (fault : LineFault) (done : List SubOp) (words whole rest : List (List ℕ))
    → Left done words whole
    → Takes (Err fault) (op_at words) rest → IsParse {A = List SubOp} (Err fault) (ops_of whole)
fault_told (Wrong why) done words whole rest l h = Left-none done words whole why l h
fault_told NoMemory done words whole rest l h = tt

no_word : (words : List (List ℕ)) → first_of words ≡ None → words ≡ []
no_word [] h = refl
no_word (word ∷ words) h = cc h

some_taken : (op : SubOp) (behind rest : List (List ℕ)) (o : Result TakenOp Cause)
    → o ≡ Ok (op, behind) → behind ≡ rest
    → o ≡ Ok (op, rest)
some_taken op behind rest o h e = rw (← e) h

pub after_last : (done now : List SubOp) (words whole behind : List (List ℕ)) (op : SubOp)
    → Left done words whole
    → op_at words ≡ Ok (op, behind) → now ≡ done ++ op ∷ [] → first_of behind ≡ None
    → ops_of whole ≡ Ok now
after_last done now words whole behind op l at is none =
    Left-last done words whole op l (some_taken op behind [] (op_at words) at (no_word behind none))
    ∙ ap Ok (sym is)

pub after_more : (done now : List SubOp) (words whole behind rest : List (List ℕ)) (op : SubOp)
    (word : List ℕ) → Left done words whole
    → op_at words ≡ Ok (op, behind) → now ≡ done ++ op ∷ [] → first_of behind ≡ Some word
    → bytes_eq word (codes ";") ≡ true
    → rest ≡ rest_of behind → Left now rest whole
after_more done now words whole behind rest op word l at is first semicolon left =
    rw (is, left)
    (Left-more done words whole op word (rest_of behind) l
    (some_taken op behind (word ∷ rest_of behind) (op_at words) at (first_word behind word first))
    semicolon)

pub after_other : (done : List SubOp) (words whole behind : List (List ℕ)) (op : SubOp)
    (word : List ℕ) → Left done words whole
    → op_at words ≡ Ok (op, behind) → first_of behind ≡ Some word
    → bytes_eq word (codes ";") ≡ false
    → ops_of whole ≡ Err cause.Words
after_other done words whole behind op word l at first other =
    Left-other done words whole op word (rest_of behind) l
    (some_taken op behind (word ∷ rest_of behind) (op_at words) at (first_word behind word first))
    other

rest_no_longer : (words : List (List ℕ)) → length (rest_of words) ≤ length words
rest_no_longer [] = omega arith
rest_no_longer (word ∷ words) = omega arith

pub fewer_left : (words behind rest : List (List ℕ)) (op : SubOp) → op_at words ≡ Ok (op, behind)
    → rest ≡ rest_of behind
    → length rest < length words
fewer_left words behind rest op at left =
    omega (arith, op_at-shorter words op behind at, rest_no_longer behind, ap length left)

pub pushed_items : {E : Type 0} (r : Result Unit E) (now done : List SubOp) (op : SubOp)
    → is_err r ≡ false
    → OnOk r (now ≡ done ++ op ∷ []) → now ≡ done ++ op ∷ []
pushed_items (Ok u) now done op h p = p
pushed_items (Err e) now done op h p = cc h
