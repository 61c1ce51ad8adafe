-- The outcome of reading lines is what a script is, and what its fault is.
use Rattle.std.proofs.Common.{◌≡◌, ℕ, suc, ◌+◌, Bool, true, false, List, [], ◌∷◌, length, drop, Result, Ok, Err, if◌then◌else◌, refl, sym, subst, arith}
use Rattle.script_lang.specs.declared.cause.Cause.{Cause}
use Rattle.script_lang.specs.declared.line.Line.{Line}
use Rattle.script_lang.specs.declared.line.Numbered.{Numbered}
use Rattle.script_lang.specs.Contexts.{Context, moved, start}
use Rattle.script_lang.specs.Scripts.{IsFirstWrong, Reads, is_passed}
use Rattle.script_lang.specs.Outcomes.{Outcome, behind, outcome, told}
use Rattle.script_lang.specs.Reading.{line_of}
use Rattle.script_lang.proofs.Spelled.{line_of-sound}

-- what lines behind a command said
behind-ok : (first : Numbered) (others : Outcome) (said : List Numbered)
    → behind (first ∷ []) others ≡ Ok said
    → (more : List Numbered) × (others ≡ Ok more) × (first ∷ more ≡ said)
behind-ok first (Ok more) said h = (more, refl, cc h)
behind-ok first (Err wrong) said h = cc h

behind-err : (first : Numbered) (others : Outcome) (wrong : ℕ × Cause)
    → behind (first ∷ []) others ≡ Err wrong → others ≡ Err wrong
behind-err first (Ok more) wrong h = cc h
behind-err first (Err w) wrong h = h

told-ok : (number : ℕ) (line : Result Line Cause) (others : Line → Outcome) (said : List Numbered)
    → told number line others ≡ Ok said
    → (l : Line) × (more : List Numbered) × (line ≡ Ok l) × (others l ≡ Ok more)
    × (record { number = number; line = l } ∷ more ≡ said)
told-ok number (Err why) others said h = cc h
told-ok number (Ok l) others said h =
    let b = behind-ok (record { number = number; line = l }) (others l) said h in
    (l, b.0, refl, b.1, b.2)

-- ---- what was read is said
-- all lines say these, and there is a context behind them
pub record ReadsAll (ctx : Context) (number : ℕ) (texts : List (List ℕ)) (said : List Numbered) :
    Type 0 where
  pub last : Context
  pub reads : Reads ctx number (length texts) texts said last

said_by_test : (ctx : Context) (number : ℕ) (text : List ℕ) (texts : List (List ℕ))
    (said : List Numbered)
    → ((c : Context) (said : List Numbered) → outcome c (number + 1) texts ≡ Ok said
    → ReadsAll c (number + 1) texts said)
    → (passed : Bool) → is_passed text ≡ passed
    → (if passed then outcome ctx (number + 1) texts
    else told number (line_of ctx texts text) (λ line. outcome (moved ctx line) (number + 1) texts))
    ≡ Ok said
    → ReadsAll ctx number (text ∷ texts) said
said_by_test ctx number text texts said ih true is h =
    let r = ih ctx said h in
    record { last = r.last; reads = rw is r.reads }
said_by_test ctx number text texts said ih false is h =
    let t = told-ok number (line_of ctx texts text) _ said h in
    let r = ih (moved ctx t.0) t.1 t.3 in
    let s = line_of-sound ctx texts text t.0 t.2 in
    let first : Numbered = record { number = number; line = t.0 } in
    let read : Reads ctx number (suc (length texts)) (text ∷ texts) (first ∷ t.1) r.last =
    rw is (refl, s.says, s.place, r.reads) in
    let all : List Numbered → Type 0 =
    λ x. Reads ctx number (suc (length texts)) (text ∷ texts) x r.last in
    record { last = r.last; reads = subst all t.4 read }

pub outcome-sound : (ctx : Context) (number : ℕ) (texts : List (List ℕ)) (said : List Numbered)
    → outcome ctx number texts ≡ Ok said
    → ReadsAll ctx number texts said
unfolding outcome
outcome-sound ctx number [] said h = let e : [] ≡ said =
    cc h in record { last = ctx; reads = (sym e, refl) }
outcome-sound ctx number (text ∷ texts) said h =
    said_by_test ctx number text texts said (λ c said h. outcome-sound c (number + 1) texts said h)
    (is_passed text) refl h

-- ---- the first wrong line
-- the first wrong line of lines, the first of them of this number and in this context
pub record IsWrongFrom (first : Context) (number : ℕ) (texts : List (List ℕ)) (wrong : ℕ)
    (cause : Cause) : Type 0 where
  pub before : ℕ
  pub counted : wrong ≡ number + before
  pub said : List Numbered
  pub ctx : Context
  pub right : Reads first number before texts said ctx
  pub text : List ℕ
  pub behind : List (List ℕ)
  pub there : drop before texts ≡ text ∷ behind
  pub not_passed : is_passed text ≡ false
  pub wrong_text : line_of ctx behind text ≡ Err cause

wrong_here : (ctx : Context) (number : ℕ) (text : List ℕ) (texts : List (List ℕ)) (cause : Cause)
    → is_passed text ≡ false
    → line_of ctx texts text ≡ Err cause → IsWrongFrom ctx number (text ∷ texts) number cause
wrong_here ctx number text texts cause passed wrong =
    record {
      before = 0;
      counted = omega arith;
      said = [];
      ctx = ctx;
      right = (refl, refl);
      text = text;
      behind = texts;
      there = refl;
      not_passed = passed;
      wrong_text = wrong;
    }

-- a right line before the others: one that is passed over, or one that says a command
wrong_behind_passed : (ctx : Context) (number : ℕ) (text : List ℕ) (texts : List (List ℕ))
    (wrong : ℕ) (cause : Cause)
    → is_passed text ≡ true → IsWrongFrom ctx (number + 1) texts wrong cause
    → IsWrongFrom ctx number (text ∷ texts) wrong cause
wrong_behind_passed ctx number text texts wrong cause passed w =
    let counted = w.counted in
    let read : Reads ctx number (suc w.before) (text ∷ texts) w.said w.ctx = rw passed w.right in
    record {
      before = suc w.before;
      counted = omega arith;
      said = w.said;
      ctx = w.ctx;
      right = read;
      text = w.text;
      behind = w.behind;
      there = w.there;
      not_passed = w.not_passed;
      wrong_text = w.wrong_text;
    }

wrong_behind_said : (ctx : Context) (number : ℕ) (text : List ℕ) (texts : List (List ℕ)) (wrong : ℕ)
    (cause : Cause) (line : Line)
    → is_passed text ≡ false → line_of ctx texts text ≡ Ok line
    → IsWrongFrom (moved ctx line) (number + 1) texts wrong cause
    → IsWrongFrom ctx number (text ∷ texts) wrong cause
wrong_behind_said ctx number text texts wrong cause line passed says w =
    let counted = w.counted in
    let s = line_of-sound ctx texts text line says in
    let said : List Numbered = record { number = number; line = line } ∷ w.said in
    let read : Reads ctx number (suc w.before) (text ∷ texts) said w.ctx =
    rw passed (refl, s.says, s.place, w.right) in
    record {
      before = suc w.before;
      counted = omega arith;
      said = said;
      ctx = w.ctx;
      right = read;
      text = w.text;
      behind = w.behind;
      there = w.there;
      not_passed = w.not_passed;
      wrong_text = w.wrong_text;
    }

told_wrong : (ctx : Context) (number : ℕ) (text : List ℕ) (texts : List (List ℕ)) (wrong : ℕ
    × Cause)
    → ((c : Context) (wrong : ℕ × Cause) → outcome c (number + 1) texts ≡ Err wrong
    → IsWrongFrom c (number + 1) texts wrong.0 wrong.1)
    → is_passed text ≡ false → (line : Result Line Cause) → line_of ctx texts text ≡ line
    → told number line (λ line. outcome (moved ctx line) (number + 1) texts) ≡ Err wrong
    → IsWrongFrom ctx number (text ∷ texts) wrong.0 wrong.1
told_wrong ctx number text texts wrong ih passed (Err why) says h =
    let e : (number, why) ≡ wrong = cc h in
    rw (← e) (wrong_here ctx number text texts why passed says)
told_wrong ctx number text texts wrong ih passed (Ok line) says h =
    wrong_behind_said ctx number text texts wrong.0 wrong.1 line passed says
    (ih (moved ctx line) wrong (behind-err (record {
      number = number;
      line = line;
    }) (outcome (moved ctx line) (number + 1) texts) wrong h))

wrong_by_test : (ctx : Context) (number : ℕ) (text : List ℕ) (texts : List (List ℕ)) (wrong : ℕ
    × Cause)
    → ((c : Context) (wrong : ℕ × Cause) → outcome c (number + 1) texts ≡ Err wrong
    → IsWrongFrom c (number + 1) texts wrong.0 wrong.1)
    → (passed : Bool) → is_passed text ≡ passed
    → (if passed then outcome ctx (number + 1) texts
    else told number (line_of ctx texts text) (λ line. outcome (moved ctx line) (number + 1) texts))
    ≡ Err wrong
    → IsWrongFrom ctx number (text ∷ texts) wrong.0 wrong.1
wrong_by_test ctx number text texts wrong ih true is h =
    wrong_behind_passed ctx number text texts wrong.0 wrong.1 is (ih ctx wrong h)
wrong_by_test ctx number text texts wrong ih false is h =
    told_wrong ctx number text texts wrong ih is (line_of ctx texts text) refl h

outcome-wrong : (ctx : Context) (number : ℕ) (texts : List (List ℕ)) (wrong : ℕ × Cause)
    → outcome ctx number texts ≡ Err wrong
    → IsWrongFrom ctx number texts wrong.0 wrong.1
unfolding outcome
outcome-wrong ctx number [] wrong h = cc h
outcome-wrong ctx number (text ∷ texts) wrong h =
    wrong_by_test ctx number text texts wrong
    (λ c wrong h. outcome-wrong c (number + 1) texts wrong h) (is_passed text) refl h

pub IsFirstWrong-from_outcome : (texts : List (List ℕ)) (wrong : ℕ) (cause : Cause)
    → outcome start 1 texts ≡ Err (wrong, cause)
    → IsFirstWrong texts wrong cause
IsFirstWrong-from_outcome texts wrong cause h =
    let w = outcome-wrong start 1 texts (wrong, cause) h in
    let counted = w.counted in
    record {
      before = w.before;
      counted = omega arith;
      said = w.said;
      ctx = w.ctx;
      right = w.right;
      text = w.text;
      behind = w.behind;
      there = w.there;
      not_passed = w.not_passed;
      wrong = w.wrong_text;
    }
