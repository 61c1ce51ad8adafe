-- The spelling of a line reads as it.
use Rattle.std.proofs.Common.{◌≡◌, ℕ, ◌≤◌, ◌^◌, ◌&&◌, nat_le, not, true, false, List, [], ◌∷◌, Some, Ok, refl, ap, ◌∙◌, arith, codes, decimal}
use Rattle.std.specs.List.{list_any}
use Rattle.std.proofs.lemmas.Bool.Decides.{nat_tests}
use Rattle.std.proofs.lemmas.List.Elements.{recursion_from_All}
use Rattle.obj_model.specs.SubOps.{is_write}
use Rattle.obj_model.specs.declared.tier.Mode.{Mode}
use Rattle.obj_model.specs.declared.tier.Mode.TheVariants as mode
use Rattle.script_lang.specs.declared.line.Line.{Line}
use Rattle.script_lang.specs.declared.line.Line.TheVariants as line
use Rattle.script_lang.specs.declared.verbs.LineVerb.{LineVerb}
use Rattle.script_lang.specs.declared.verbs.LineVerb.TheVariants as verb
use Rattle.script_lang.specs.Contexts.{Context, IsInTime, MayStand}
use Rattle.script_lang.specs.Spelling.{IsClient, IsLine, IsName, IsOp, Parses, line_words, mode_word, spelling, vector_words}
use Rattle.script_lang.specs.Verbs.{line_verb_of, line_word}
use Rattle.script_lang.specs.Reading.{client_at, client_of, line_at, line_by, line_name_at, line_number_at, line_of, mode_of, name_line, words_of}
use Rattle.script_lang.proofs.Joined.{IsWord, IsWords, joined_is_even, literal_is_word, word_at-word, words_of-joined}
use Rattle.script_lang.proofs.Numbers.{decimal_is_word, number_of-decimal}
use Rattle.script_lang.proofs.Names.{name_is_word, name_of-name}
use Rattle.script_laws.proofs.ReadOps.{vector_is_words, vector_of-words}

client_of-lawful : (n : ℕ) → IsClient n → client_of n ≡ Ok n
client_of-lawful n h =
    let low = h.low in
    let high = h.high in
    let test : (nat_le 1 n && nat_le n 256) ≡ true = grind (arith, nat_tests) in
    rw test refl

number_reads : (n : ℕ) (rest : List (List ℕ)) → n ≤ 2 ^ 62
    → line_number_at (decimal n ∷ rest) ≡ Ok n
number_reads n rest h =
    rw (word_at-word (decimal n) rest (decimal_is_word n h), number_of-decimal n h) refl

client_reads : (n : ℕ) (rest : List (List ℕ)) → IsClient n → client_at (decimal n ∷ rest) ≡ Ok n
client_reads n rest h =
    let high = h.high in
    rw (number_reads n rest (omega arith)) (client_of-lawful n h)

name_reads : (name : List ℕ) (rest : List (List ℕ)) → IsName name
    → line_name_at (name ∷ rest) ≡ Ok name
name_reads name rest h = rw (word_at-word name rest (name_is_word name h), name_of-name name h) refl

line_verb_of-word : (v : LineVerb) → line_verb_of (line_word v) ≡ Some v
unfolding line_verb_of
line_verb_of-word verb.Op = refl
line_verb_of-word verb.Get = refl
line_verb_of-word verb.Flush = refl
line_verb_of-word verb.Tryflush = refl
line_verb_of-word verb.Begin = refl
line_verb_of-word verb.Finish = refl
line_verb_of-word verb.Evict = refl
line_verb_of-word verb.Drain = refl
line_verb_of-word verb.Agent = refl
line_verb_of-word verb.Mode = refl
line_verb_of-word verb.Time = refl
line_verb_of-word verb.Stop = refl
line_verb_of-word verb.Par = refl
line_verb_of-word verb.End = refl

verb_is_word : (v : LineVerb) → IsWord (line_word v)
verb_is_word verb.Op = literal_is_word (line_word verb.Op) refl
verb_is_word verb.Get = literal_is_word (line_word verb.Get) refl
verb_is_word verb.Flush = literal_is_word (line_word verb.Flush) refl
verb_is_word verb.Tryflush = literal_is_word (line_word verb.Tryflush) refl
verb_is_word verb.Begin = literal_is_word (line_word verb.Begin) refl
verb_is_word verb.Finish = literal_is_word (line_word verb.Finish) refl
verb_is_word verb.Evict = literal_is_word (line_word verb.Evict) refl
verb_is_word verb.Drain = literal_is_word (line_word verb.Drain) refl
verb_is_word verb.Agent = literal_is_word (line_word verb.Agent) refl
verb_is_word verb.Mode = literal_is_word (line_word verb.Mode) refl
verb_is_word verb.Time = literal_is_word (line_word verb.Time) refl
verb_is_word verb.Stop = literal_is_word (line_word verb.Stop) refl
verb_is_word verb.Par = literal_is_word (line_word verb.Par) refl
verb_is_word verb.End = literal_is_word (line_word verb.End) refl

mode_is_word : (m : Mode) → IsWord (mode_word m)
mode_is_word mode.Writeback = literal_is_word (mode_word mode.Writeback) refl
mode_is_word mode.Readproxy = literal_is_word (mode_word mode.Readproxy) refl
mode_is_word mode.Proxy = literal_is_word (mode_word mode.Proxy) refl

mode_of-word : (m : Mode) → mode_of (mode_word m) ≡ Ok m
unfolding mode_of
mode_of-word mode.Writeback = refl
mode_of-word mode.Readproxy = refl
mode_of-word mode.Proxy = refl

-- the words behind the verb of a lawful line
pub line_is_words : (said : Line) → IsLine said → IsWords (line_words said)
line_is_words (line.Op req) h =
    let high = h.0.client_lawful.high in (
      verb_is_word verb.Op,
      (
        decimal_is_word req.client (omega arith),
        (
          decimal_is_word req.tid h.1,
          (
            name_is_word req.name h.0.name_lawful,
            vector_is_words req.vector (recursion_from_All IsOp req.vector h.0.each_spelled),
          ),
        ),
      ),
    )
line_is_words (line.Get client name vector) h =
    let high = h.0.client_lawful.high in (
      verb_is_word verb.Get,
      (
        decimal_is_word client (omega arith),
        (
          name_is_word name h.0.name_lawful,
          vector_is_words vector (recursion_from_All IsOp vector h.0.each_spelled),
        ),
      ),
    )
line_is_words (line.Flush name) h = (verb_is_word verb.Flush, (name_is_word name h, tt))
line_is_words (line.Tryflush name) h = (verb_is_word verb.Tryflush, (name_is_word name h, tt))
line_is_words (line.Finish name) h = (verb_is_word verb.Finish, (name_is_word name h, tt))
line_is_words (line.Evict name) h = (verb_is_word verb.Evict, (name_is_word name h, tt))
line_is_words (line.BeginFlush name) h =
    (verb_is_word verb.Begin, (verb_is_word verb.Flush, (name_is_word name h, tt)))
line_is_words (line.BeginTryflush name) h =
    (verb_is_word verb.Begin, (verb_is_word verb.Tryflush, (name_is_word name h, tt)))
line_is_words line.Drain h = (verb_is_word verb.Drain, tt)
line_is_words line.Agent h = (verb_is_word verb.Agent, tt)
line_is_words line.Par h = (verb_is_word verb.Par, tt)
line_is_words line.End h = (verb_is_word verb.End, tt)
line_is_words (line.SetMode m) h = (verb_is_word verb.Mode, (mode_is_word m, tt))
line_is_words (line.SetTime moment) h = (verb_is_word verb.Time, (decimal_is_word moment h, tt))
line_is_words line.StopCache h =
    (verb_is_word verb.Stop, (literal_is_word (codes "cache") refl, tt))
line_is_words line.StopBase h = (verb_is_word verb.Stop, (literal_is_word (codes "base") refl, tt))

-- the words of a line read as it
from_words : (least : ℕ) (v : LineVerb) (words : List (List ℕ)) (said : Line)
    → line_by least v words ≡ Ok said
    → line_at least (line_word v ∷ words) ≡ Ok said
from_words least v words said h =
    rw (word_at-word (line_word v) words (verb_is_word v), line_verb_of-word v) h

name_line-words : (make : List ℕ → Line) (name : List ℕ) → IsName name
    → name_line make (name ∷ []) ≡ Ok (make name)
name_line-words make name h = rw (name_reads name [] h) refl

line_at-words : (least : ℕ) (said : Line) → IsLine said → IsInTime least said
    → line_at least (line_words said) ≡ Ok said
line_at-words least (line.Op req) h t =
    let client =
    client_reads req.client (decimal req.tid ∷ req.name ∷ vector_words req.vector) h.0.client_lawful
    in
    let tid = number_reads req.tid (req.name ∷ vector_words req.vector) h.1 in
    let name = name_reads req.name (vector_words req.vector) h.0.name_lawful in
    let vector = vector_of-words true req.vector h.0.each_spelled h.0.vector_lawful h.2 in
    from_words least verb.Op (decimal req.client ∷ decimal req.tid ∷ req.name
    ∷ vector_words req.vector) (line.Op req)
    (rw (client, tid, name, vector) refl)
line_at-words least (line.Get client name vector) h t =
    let number = client_reads client (name ∷ vector_words vector) h.0.client_lawful in
    let named = name_reads name (vector_words vector) h.0.name_lawful in
    let none : not (list_any is_write vector) ≡ true = rw h.1 refl in
    let ops = vector_of-words false vector h.0.each_spelled h.0.vector_lawful none in
    from_words least verb.Get (decimal client ∷ name ∷ vector_words vector)
    (line.Get client name vector) (rw (number, named, ops) refl)
line_at-words least (line.Flush name) h t =
    from_words least verb.Flush (name ∷ []) (line.Flush name) (name_line-words line.Flush name h)
line_at-words least (line.Tryflush name) h t =
    from_words least verb.Tryflush (name ∷ []) (line.Tryflush name)
    (name_line-words line.Tryflush name h)
line_at-words least (line.Finish name) h t =
    from_words least verb.Finish (name ∷ []) (line.Finish name) (name_line-words line.Finish name h)
line_at-words least (line.Evict name) h t =
    from_words least verb.Evict (name ∷ []) (line.Evict name) (name_line-words line.Evict name h)
line_at-words least (line.BeginFlush name) h t =
    from_words least verb.Begin (line_word verb.Flush ∷ name ∷ []) (line.BeginFlush name)
    (name_line-words line.BeginFlush name h)
line_at-words least (line.BeginTryflush name) h t =
    from_words least verb.Begin (line_word verb.Tryflush ∷ name ∷ []) (line.BeginTryflush name)
    (name_line-words line.BeginTryflush name h)
line_at-words least line.Drain h t = from_words least verb.Drain [] line.Drain refl
line_at-words least line.Agent h t = from_words least verb.Agent [] line.Agent refl
line_at-words least line.Par h t = from_words least verb.Par [] line.Par refl
line_at-words least line.End h t = from_words least verb.End [] line.End refl
line_at-words least (line.SetMode m) h t =
    let word = word_at-word (mode_word m) [] (mode_is_word m) in
    from_words least verb.Mode (mode_word m ∷ []) (line.SetMode m) (rw (word, mode_of-word m) refl)
line_at-words least (line.SetTime moment) h t =
    let number = number_reads moment [] h in
    let late : nat_le least moment ≡ true = grind (arith, nat_tests) in
    from_words least verb.Time (decimal moment ∷ []) (line.SetTime moment) (rw (number, late) refl)
line_at-words least line.StopCache h t =
    from_words least verb.Stop (codes "cache" ∷ []) line.StopCache refl
line_at-words least line.StopBase h t =
    from_words least verb.Stop (codes "base" ∷ []) line.StopBase refl

-- the words of a spelling are the line's
words_of-spelling : (said : Line) → IsLine said → words_of (spelling said) ≡ line_words said
words_of-spelling (line.Op req) h =
    words_of-joined (line_word verb.Op) (decimal req.client ∷ decimal req.tid ∷ req.name
    ∷ vector_words req.vector) (line_is_words (line.Op req) h)
words_of-spelling (line.Get client name vector) h =
    words_of-joined (line_word verb.Get) (decimal client ∷ name ∷ vector_words vector)
    (line_is_words (line.Get client name vector) h)
words_of-spelling (line.Flush name) h =
    words_of-joined (line_word verb.Flush) (name ∷ []) (line_is_words (line.Flush name) h)
words_of-spelling (line.Tryflush name) h =
    words_of-joined (line_word verb.Tryflush) (name ∷ []) (line_is_words (line.Tryflush name) h)
words_of-spelling (line.Finish name) h =
    words_of-joined (line_word verb.Finish) (name ∷ []) (line_is_words (line.Finish name) h)
words_of-spelling (line.Evict name) h =
    words_of-joined (line_word verb.Evict) (name ∷ []) (line_is_words (line.Evict name) h)
words_of-spelling (line.BeginFlush name) h =
    words_of-joined (line_word verb.Begin) (line_word verb.Flush ∷ name ∷ [])
    (line_is_words (line.BeginFlush name) h)
words_of-spelling (line.BeginTryflush name) h =
    words_of-joined (line_word verb.Begin) (line_word verb.Tryflush ∷ name ∷ [])
    (line_is_words (line.BeginTryflush name) h)
words_of-spelling line.Drain h =
    words_of-joined (line_word verb.Drain) ([]) (line_is_words line.Drain h)
words_of-spelling line.Agent h =
    words_of-joined (line_word verb.Agent) ([]) (line_is_words line.Agent h)
words_of-spelling line.Par h = words_of-joined (line_word verb.Par) ([]) (line_is_words line.Par h)
words_of-spelling line.End h = words_of-joined (line_word verb.End) ([]) (line_is_words line.End h)
words_of-spelling (line.SetMode m) h =
    words_of-joined (line_word verb.Mode) (mode_word m ∷ []) (line_is_words (line.SetMode m) h)
words_of-spelling (line.SetTime moment) h =
    words_of-joined (line_word verb.Time) (decimal moment ∷ [])
    (line_is_words (line.SetTime moment) h)
words_of-spelling line.StopCache h =
    words_of-joined (line_word verb.Stop) (codes "cache" ∷ []) (line_is_words line.StopCache h)
words_of-spelling line.StopBase h =
    words_of-joined (line_word verb.Stop) (codes "base" ∷ []) (line_is_words line.StopBase h)

-- a spelling reads as its line, where the line may stand
line_of-spelling : (ctx : Context) (texts : List (List ℕ)) (said : Line) → IsLine said
    → MayStand ctx texts said
    → line_of ctx texts (spelling said) ≡ Ok said
unfolding line_of
line_of-spelling ctx texts said h p =
    let even = joined_is_even (line_words said) (line_is_words said h) in
    let words = words_of-spelling said h in
    let read = line_at-words ctx.moment said h p.in_time in
    let place = p.in_place in
    rw (even, words, read, place) refl

-- what is said is read
pub line_of-says : (ctx : Context) (texts : List (List ℕ)) (text : List ℕ) (said : Line)
    → Parses text said → MayStand ctx texts said
    → line_of ctx texts text ≡ Ok said
line_of-says ctx texts text said s p = ap (line_of ctx texts) s.spelled
    ∙ line_of-spelling ctx texts said s.lawful p
