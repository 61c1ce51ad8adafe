-- A text reads as a line exactly where it is the line's spelling, and the line may stand there.
use Rattle.std.proofs.Common.{◌≡◌, ℕ, ◌≤◌, ◌^◌, ◌&&◌, nat_le, not, Bool, true, false, List, [], ◌∷◌, ◌++◌, append-nil, Some, Ok, Err, if◌then◌else◌, refl, sym, ap, ◌∙◌, arith, bytes_eq, codes, decimal}
use Rattle.std.specs.List.{join_with_byte, list_any}
use Rattle.std.specs.Cmp.Lexicographic.{bytes_decides}
use Rattle.std.proofs.lemmas.Bool.{and_parts}
use Rattle.std.proofs.lemmas.Bool.Decides.{nat_tests}
use Rattle.obj_model.specs.SubOps.{is_write}
use Rattle.obj_model.specs.declared.tier.Mode.{Mode}
use Rattle.obj_model.specs.declared.tier.Mode.TheVariants as mode
use Rattle.script_lang.specs.declared.cause.Cause.{Cause}
use Rattle.script_lang.specs.declared.cause.Cause.TheVariants as cause
use Rattle.script_lang.specs.declared.line.Line.{Line}
use Rattle.script_lang.specs.declared.line.Line.TheVariants as line
use Rattle.script_lang.specs.declared.verbs.LineVerb.{LineVerb}
use Rattle.script_lang.specs.declared.verbs.LineVerb.TheVariants as verb
use Rattle.script_lang.specs.Contexts.{Context, IsInTime, MayStand, is_in_place}
use Rattle.script_lang.specs.Spelling.{IsClient, IsLine, IsName, Parses, line_words, mode_word, vector_words}
use Rattle.script_lang.specs.Verbs.{line_verb_among, line_verb_of, line_verbs, line_word}
use Rattle.script_lang.specs.Reading.{◌>>=◌, begin_by, by_word, client_at, client_of, ended, get_line, is_odd_byte, line_at, line_by, line_from, line_name_at, line_number_at, line_of, mode_line, mode_of, moment_of, name_line, name_of, number_of, op_line, or_cause, placed, rest_of, stop_by, time_line, unknown, vector_of, word_at, words_of}
use Rattle.script_lang.proofs.Options.{bind_ok, by_word_ok, fit_ok, only_if_ok, or_cause_ok}
use Rattle.script_lang.proofs.Joined.{joined-words_of}
use Rattle.script_lang.proofs.Numbers.{number_of-sound}
use Rattle.script_lang.proofs.Names.{name_of-sound}
use Rattle.script_lang.proofs.Subops.{vector_of-sound, word_first}

-- ---- fields
line_number_at-sound : (words : List (List ℕ)) (n : ℕ) → line_number_at words ≡ Ok n
    → (words ≡ decimal n ∷ rest_of words) × (n ≤ 2 ^ 62)
line_number_at-sound words n h =
    let b = fit_ok _ number_of (word_at words) n h in
    let s = number_of-sound b.0 n b.2 in
    (word_first words b.0 b.1 ∙ ap (λ (x : List ℕ). x ∷ rest_of words) s.0, s.1)

client_at-sound : (words : List (List ℕ)) (n : ℕ) → client_at words ≡ Ok n
    → (words ≡ decimal n ∷ rest_of words) × IsClient n
client_at-sound words n h =
    let b = bind_ok (line_number_at words) client_of n h in
    let s = line_number_at-sound words b.0 b.1 in
    let o = only_if_ok (nat_le 1 b.0 && nat_le b.0 256) _ b.0 n b.2 in
    let p = and_parts (nat_le 1 b.0) (nat_le b.0 256) o.0 in
    let low : 1 ≤ b.0 = grind (arith, nat_tests) in
    let high : b.0 ≤ 256 = grind (arith, nat_tests) in
    rw (← o.1) (s.0, record { low = low; high = high })

line_name_at-sound : (words : List (List ℕ)) (name : List ℕ) → line_name_at words ≡ Ok name
    → (words ≡ name ∷ rest_of words) × IsName name
line_name_at-sound words name h =
    let b = fit_ok _ name_of (word_at words) name h in
    let s = name_of-sound b.0 name b.2 in
    (word_first words b.0 b.1 ∙ ap (λ (x : List ℕ). x ∷ rest_of words) s.0, s.1)

-- ---- what was read is said
-- words spell a lawful line, which sets no moment below this one
pub record AreLine (least : ℕ) (words : List (List ℕ)) (said : Line) : Type 0 where
  pub spelled : words ≡ line_words said
  pub lawful : IsLine said
  pub in_time : IsInTime least said

ended-ok : (said line : Line) (words : List (List ℕ)) → ended said words ≡ Ok line
    → (words ≡ []) × (said ≡ line)
ended-ok said line [] h = (refl, cc h)
ended-ok said line (word ∷ words) h = cc h

not_true : (b : Bool) → not b ≡ true → b ≡ false
not_true false h = refl
not_true true h = cc h

op_line-sound : (least : ℕ) (words : List (List ℕ)) (said : Line) → op_line words ≡ Ok said
    → AreLine least (line_word verb.Op ∷ words) said
op_line-sound least words said h =
    let a = bind_ok (client_at words) _ said h in
    let b = bind_ok (line_number_at (rest_of words)) _ said a.2 in
    let d = bind_ok (line_name_at (rest_of (rest_of words))) _ said b.2 in
    let v = bind_ok (vector_of true (rest_of (rest_of (rest_of words)))) _ said d.2 in
    let client = client_at-sound words a.0 a.1 in
    let tid = line_number_at-sound (rest_of words) b.0 b.1 in
    let name = line_name_at-sound (rest_of (rest_of words)) d.0 d.1 in
    let vector = vector_of-sound true (rest_of (rest_of (rest_of words))) v.0 v.1 in
    let is : line.Op (record { client = a.0; tid = b.0; name = d.0; vector = v.0 }) ≡ said =
    cc v.2 in
    let e : words ≡ decimal a.0 ∷ decimal b.0 ∷ d.0 ∷ vector_words v.0 =
    client.0 ∙ ap (λ (ws : List (List ℕ)). decimal a.0 ∷ ws) (tid.0
    ∙ ap (λ (ws : List (List ℕ)). decimal b.0 ∷ ws) (name.0
    ∙ ap (λ (ws : List (List ℕ)). d.0 ∷ ws) vector.0)) in
    rw (← is) (record {
      spelled = ap (λ (ws : List (List ℕ)). line_word verb.Op ∷ ws) e;
      lawful = (
        record {
          client_lawful = client.1;
          name_lawful = name.1;
          vector_lawful = vector.2;
          each_spelled = vector.1;
        },
        tid.1,
        vector.3,
      );
      in_time = tt;
    })

get_line-sound : (least : ℕ) (words : List (List ℕ)) (said : Line) → get_line words ≡ Ok said
    → AreLine least (line_word verb.Get ∷ words) said
get_line-sound least words said h =
    let a = bind_ok (client_at words) _ said h in
    let d = bind_ok (line_name_at (rest_of words)) _ said a.2 in
    let v = bind_ok (vector_of false (rest_of (rest_of words))) _ said d.2 in
    let client = client_at-sound words a.0 a.1 in
    let name = line_name_at-sound (rest_of words) d.0 d.1 in
    let vector = vector_of-sound false (rest_of (rest_of words)) v.0 v.1 in
    let is : line.Get a.0 d.0 v.0 ≡ said = cc v.2 in
    let e : words ≡ decimal a.0 ∷ d.0 ∷ vector_words v.0 =
    client.0 ∙ ap (λ (ws : List (List ℕ)). decimal a.0 ∷ ws) (name.0
    ∙ ap (λ (ws : List (List ℕ)). d.0 ∷ ws) vector.0) in
    rw (← is) (record {
      spelled = ap (λ (ws : List (List ℕ)). line_word verb.Get ∷ ws) e;
      lawful = (
        record {
          client_lawful = client.1;
          name_lawful = name.1;
          vector_lawful = vector.2;
          each_spelled = vector.1;
        },
        not_true (list_any is_write v.0) vector.3,
      );
      in_time = tt;
    })

-- a line of one name
record IsOfName (least : ℕ) (front : List (List ℕ)) (make : List ℕ → Line) : Type 0 where
  words : (name : List ℕ) → line_words (make name) ≡ front ++ name ∷ []
  lawful : (name : List ℕ) → IsName name → IsLine (make name)
  in_time : (name : List ℕ) → IsInTime least (make name)

name_line-sound : (least : ℕ) (front : List (List ℕ)) (make : List ℕ → Line)
    → IsOfName least front make
    → (words : List (List ℕ)) (said : Line) → name_line make words ≡ Ok said
    → AreLine least (front ++ words) said
name_line-sound least front make of words said h =
    let a = bind_ok (line_name_at words) _ said h in
    let name = line_name_at-sound words a.0 a.1 in
    let end = ended-ok (make a.0) said (rest_of words) a.2 in
    let e : words ≡ a.0 ∷ [] = name.0 ∙ ap (λ (ws : List (List ℕ)). a.0 ∷ ws) end.0 in
    rw (← end.1) (record {
      spelled = ap (λ (ws : List (List ℕ)). front ++ ws) e ∙ sym (of.words a.0);
      lawful = of.lawful a.0 name.1;
      in_time = of.in_time a.0;
    })

-- a line of no field
alone-sound : (least : ℕ) (front : List (List ℕ)) (line : Line) → line_words line ≡ front
    → IsLine line → IsInTime least line
    → (words : List (List ℕ)) (said : Line) → ended line words ≡ Ok said
    → AreLine least (front ++ words) said
alone-sound least front line spelled lawful in_time words said h =
    let end = ended-ok line said words h in
    rw (← end.1) (record {
      spelled = ap (λ (ws : List (List ℕ)). front ++ ws) end.0 ∙ append-nil front ∙ sym spelled;
      lawful = lawful;
      in_time = in_time;
    })

begin_by_tests : (least : ℕ) (words : List (List ℕ)) (word : List ℕ) (said : Line)
    (flush try : Bool)
    → bytes_eq word (line_word verb.Flush) ≡ flush → bytes_eq word (line_word verb.Tryflush) ≡ try
    → (if flush then name_line line.BeginFlush words
    else if try then name_line line.BeginTryflush words else Err cause.Verb) ≡ Ok said
    → AreLine least (line_word verb.Begin ∷ word ∷ words) said
begin_by_tests least words word said true try a b h =
    let e : word ≡ line_word verb.Flush = (bytes_decides word (line_word verb.Flush)).0 a in
    rw e (name_line-sound least (line_word verb.Begin ∷ line_word verb.Flush ∷ []) line.BeginFlush
    (record { words = λ name. refl; lawful = λ name n. n; in_time = λ name. tt }) words said h)
begin_by_tests least words word said false true a b h =
    let e : word ≡ line_word verb.Tryflush = (bytes_decides word (line_word verb.Tryflush)).0 b in
    rw e (name_line-sound least (line_word verb.Begin ∷ line_word verb.Tryflush ∷ [])
    line.BeginTryflush
    (record { words = λ name. refl; lawful = λ name n. n; in_time = λ name. tt }) words said h)
begin_by_tests least words word said false false a b h = cc h

begin-sound : (least : ℕ) (words : List (List ℕ)) (said : Line)
    → by_word (begin_by (rest_of words)) (word_at words) ≡ Ok said
    → AreLine least (line_word verb.Begin ∷ words) said
begin-sound least words said h =
    let b = by_word_ok (begin_by (rest_of words)) (word_at words) said h in
    rw (word_first words b.0 b.1) (begin_by_tests least (rest_of words) b.0 said _ _ refl refl b.2)

stop_by_tests : (least : ℕ) (words : List (List ℕ)) (word : List ℕ) (said : Line)
    (cache base : Bool)
    → bytes_eq word (codes "cache") ≡ cache → bytes_eq word (codes "base") ≡ base
    → (if cache then ended line.StopCache words else if base then ended line.StopBase words
    else Err cause.Verb) ≡ Ok said
    → AreLine least (line_word verb.Stop ∷ word ∷ words) said
stop_by_tests least words word said true base a b h =
    let e : word ≡ codes "cache" = (bytes_decides word (codes "cache")).0 a in
    rw e (alone-sound least (line_word verb.Stop ∷ codes "cache" ∷ []) line.StopCache refl tt tt
    words said h)
stop_by_tests least words word said false true a b h =
    let e : word ≡ codes "base" = (bytes_decides word (codes "base")).0 b in
    rw e (alone-sound least (line_word verb.Stop ∷ codes "base" ∷ []) line.StopBase refl tt tt words
    said h)
stop_by_tests least words word said false false a b h = cc h

stop-sound : (least : ℕ) (words : List (List ℕ)) (said : Line)
    → by_word (stop_by (rest_of words)) (word_at words) ≡ Ok said
    → AreLine least (line_word verb.Stop ∷ words) said
stop-sound least words said h =
    let b = by_word_ok (stop_by (rest_of words)) (word_at words) said h in
    rw (word_first words b.0 b.1) (stop_by_tests least (rest_of words) b.0 said _ _ refl refl b.2)

mode_by_tests : (word : List ℕ) (m : Mode) (why : Cause) (back read prox : Bool)
    → bytes_eq word (mode_word mode.Writeback) ≡ back
    → bytes_eq word (mode_word mode.Readproxy) ≡ read
    → bytes_eq word (mode_word mode.Proxy) ≡ prox
    → (if back then Ok mode.Writeback else if read then Ok mode.Readproxy
    else if prox then Ok mode.Proxy else Err why) ≡ Ok m
    → word ≡ mode_word m
mode_by_tests word m why true read prox a b d h =
    let e : mode.Writeback ≡ m = cc h in
    (bytes_decides word (mode_word mode.Writeback)).0 a ∙ ap mode_word e
mode_by_tests word m why false true prox a b d h =
    let e : mode.Readproxy ≡ m = cc h in
    (bytes_decides word (mode_word mode.Readproxy)).0 b ∙ ap mode_word e
mode_by_tests word m why false false true a b d h =
    let e : mode.Proxy ≡ m = cc h in
    (bytes_decides word (mode_word mode.Proxy)).0 d ∙ ap mode_word e
mode_by_tests word m why false false false a b d h = cc h

mode_of-sound : (word : List ℕ) (m : Mode) → mode_of word ≡ Ok m → word ≡ mode_word m
unfolding mode_of
mode_of-sound word m h = mode_by_tests word m _ _ _ _ refl refl refl h

mode-sound : (least : ℕ) (words : List (List ℕ)) (said : Line) → mode_line words ≡ Ok said
    → AreLine least (line_word verb.Mode ∷ words) said
mode-sound least words said h =
    let a = bind_ok (by_word mode_of (word_at words)) _ said h in
    let b = by_word_ok mode_of (word_at words) a.0 a.1 in
    let m = mode_of-sound b.0 a.0 b.2 in
    let end = ended-ok (line.SetMode a.0) said (rest_of words) a.2 in
    let e : words ≡ mode_word a.0 ∷ [] =
    word_first words b.0 b.1 ∙ ap (λ (x : List ℕ). x ∷ rest_of words) m
    ∙ ap (λ (ws : List (List ℕ)). mode_word a.0 ∷ ws) end.0 in
    rw (← end.1) (record {
      spelled = ap (λ (ws : List (List ℕ)). line_word verb.Mode ∷ ws) e;
      lawful = tt;
      in_time = tt;
    })

time-sound : (least : ℕ) (words : List (List ℕ)) (said : Line) → time_line least words ≡ Ok said
    → AreLine least (line_word verb.Time ∷ words) said
time-sound least words said h =
    let a = bind_ok (line_number_at words) _ said h in
    let b = bind_ok (moment_of least a.0) _ said a.2 in
    let n = line_number_at-sound words a.0 a.1 in
    let m = only_if_ok (nat_le least a.0) _ a.0 b.0 b.1 in
    let end = ended-ok (line.SetTime b.0) said (rest_of words) b.2 in
    let e : words ≡ decimal b.0 ∷ [] =
    n.0 ∙ ap (λ (ws : List (List ℕ)). decimal a.0 ∷ ws) end.0
    ∙ ap (λ (k : ℕ). decimal k ∷ []) m.1 in
    let late : least ≤ a.0 = grind (arith, nat_tests) in
    let same = m.1 in
    let small = n.1 in
    let lawful : b.0 ≤ 2 ^ 62 = omega arith in
    let after : least ≤ b.0 = omega arith in
    rw (← end.1) (record {
      spelled = ap (λ (ws : List (List ℕ)). line_word verb.Time ∷ ws) e;
      lawful = lawful;
      in_time = after;
    })

line_by-sound : (least : ℕ) (v : LineVerb) (words : List (List ℕ)) (said : Line)
    → line_by least v words ≡ Ok said
    → AreLine least (line_word v ∷ words) said
line_by-sound least verb.Op words said h = op_line-sound least words said h
line_by-sound least verb.Get words said h = get_line-sound least words said h
line_by-sound least verb.Flush words said h =
    name_line-sound least (line_word verb.Flush ∷ []) line.Flush (record {
      words = λ name. refl;
      lawful = λ name n. n;
      in_time = λ name. tt;
    }) words said h
line_by-sound least verb.Tryflush words said h =
    name_line-sound least (line_word verb.Tryflush ∷ []) line.Tryflush
    (record { words = λ name. refl; lawful = λ name n. n; in_time = λ name. tt }) words said h
line_by-sound least verb.Begin words said h = begin-sound least words said h
line_by-sound least verb.Finish words said h =
    name_line-sound least (line_word verb.Finish ∷ []) line.Finish (record {
      words = λ name. refl;
      lawful = λ name n. n;
      in_time = λ name. tt;
    }) words said h
line_by-sound least verb.Evict words said h =
    name_line-sound least (line_word verb.Evict ∷ []) line.Evict (record {
      words = λ name. refl;
      lawful = λ name n. n;
      in_time = λ name. tt;
    }) words said h
line_by-sound least verb.Drain words said h =
    alone-sound least (line_word verb.Drain ∷ []) line.Drain refl tt tt words said h
line_by-sound least verb.Agent words said h =
    alone-sound least (line_word verb.Agent ∷ []) line.Agent refl tt tt words said h
line_by-sound least verb.Mode words said h = mode-sound least words said h
line_by-sound least verb.Time words said h = time-sound least words said h
line_by-sound least verb.Stop words said h = stop-sound least words said h
line_by-sound least verb.Par words said h =
    alone-sound least (line_word verb.Par ∷ []) line.Par refl tt tt words said h
line_by-sound least verb.End words said h =
    alone-sound least (line_word verb.End ∷ []) line.End refl tt tt words said h

-- a verb is its word's
among_by_test : (word : List ℕ) (v : LineVerb) (verbs : List LineVerb) (found : LineVerb)
    → (line_verb_among verbs word ≡ Some found → word ≡ line_word found)
    → (test : Bool) → bytes_eq word (line_word v) ≡ test
    → (if test then Some v else line_verb_among verbs word) ≡ Some found → word ≡ line_word found
among_by_test word v verbs found ih true is h =
    let e : v ≡ found = cc h in
    (bytes_decides word (line_word v)).0 is ∙ ap line_word e
among_by_test word v verbs found ih false is h = ih h

line_verb_among-sound : (word : List ℕ) (verbs : List LineVerb) (found : LineVerb)
    → line_verb_among verbs word ≡ Some found
    → word ≡ line_word found
line_verb_among-sound word [] found h = cc h
line_verb_among-sound word (v ∷ verbs) found h =
    among_by_test word v verbs found (line_verb_among-sound word verbs found) _ refl h

line_verb_of-sound : (word : List ℕ) (v : LineVerb) → line_verb_of word ≡ Some v
    → word ≡ line_word v
unfolding line_verb_of
line_verb_of-sound word v h = line_verb_among-sound word line_verbs v h

line_at-sound : (least : ℕ) (words : List (List ℕ)) (said : Line) → line_at least words ≡ Ok said
    → AreLine least words said
line_at-sound least words said h =
    let b = by_word_ok (line_from least (rest_of words)) (word_at words) said h in
    let v = bind_ok (or_cause (unknown b.0 cause.Verb) (line_verb_of b.0)) _ said b.2 in
    let word = line_verb_of-sound b.0 v.0 (or_cause_ok _ (line_verb_of b.0) v.0 v.1) in
    rw (word_first words b.0 b.1
    ∙ ap (λ (x : List ℕ). x ∷ rest_of words) word)
    (line_by-sound least v.0 (rest_of words) said v.2)

-- a text says a line that may stand here
pub record SaysHere (ctx : Context) (texts : List (List ℕ)) (text : List ℕ) (said : Line) : Type 0
  where
    pub says : Parses text said
    pub place : MayStand ctx texts said

here_by_test : (ctx : Context) (texts : List (List ℕ)) (text : List ℕ) (said : Line) (odd : Bool)
    → (if odd then Err cause.Byte
    else line_at ctx.moment (words_of text) >>= placed ctx.block texts) ≡ Ok said
    → SaysHere ctx texts text said
here_by_test ctx texts text said true h = cc h
here_by_test ctx texts text said false h =
    let a = bind_ok (line_at ctx.moment (words_of text)) (placed ctx.block texts) said h in
    let p = only_if_ok (is_in_place ctx.block texts a.0) _ a.0 said a.2 in
    let l = line_at-sound ctx.moment (words_of text) a.0 a.1 in
    rw (← p.1) (record {
      says = record {
        lawful = l.lawful;
        spelled = sym (joined-words_of text)
            ∙ ap (join_with_byte 0x20) l.spelled;
      };
      place = record { in_time = l.in_time; in_place = p.0 };
    })

-- what is read is said
pub line_of-sound : (ctx : Context) (texts : List (List ℕ)) (text : List ℕ) (said : Line)
    → line_of ctx texts text ≡ Ok said
    → SaysHere ctx texts text said
unfolding line_of
line_of-sound ctx texts text said h = here_by_test ctx texts text said (list_any is_odd_byte text) h
