-- What the words of a line say, or the first cause from the left why they say nothing.
use Rattle.std.specs.Prelude.{ℕ, zero, suc, ◌==◌, ◌&&◌, ◌||◌, not, nat_le, nat_lt, Bool, true, false, List, [], ◌∷◌, length, slice_index, Option, Some, None, Result, Ok, Err, if◌then◌else◌, bytes_eq, codes}
use Rattle.std.specs.List.{slice_split, list_all, list_any}
use Rattle.std.specs.Option.{option_map}
use Rattle.std.specs.Result.{result_ok}
use Rattle.std.specs.Char.{is_ascii_digit}
use Rattle.std.specs.Str.Parse.{digits_value}
use Rattle.hex.specs.Hex.{decode_of}
use Rattle.obj_model.specs.Limits.{number_limit, client_limit}
use Rattle.obj_model.specs.Names.{name_fault}
use Rattle.obj_model.specs.SubOps.{is_write}
use Rattle.obj_model.specs.Vectors.{vector_fault}
use Rattle.obj_model.specs.declared.sub_op.SubOp.{SubOp}
use Rattle.obj_model.specs.declared.sub_op.SubOp.TheVariants as op
use Rattle.obj_model.specs.declared.tier.Mode.{Mode}
use Rattle.obj_model.specs.declared.tier.Mode.TheVariants as mode
use Rattle.obj_model.specs.declared.vector.BadVector.{BadVector}
use Rattle.obj_model.specs.declared.vector.BadVector.TheVariants as bad
use Rattle.script_lang.specs.declared.cause.Cause.{Cause}
use Rattle.script_lang.specs.declared.cause.Cause.TheVariants as cause
use Rattle.script_lang.specs.declared.line.Line.{Line}
use Rattle.script_lang.specs.declared.line.Line.TheVariants as line
use Rattle.script_lang.specs.declared.verbs.LineVerb.{LineVerb}
use Rattle.script_lang.specs.declared.verbs.LineVerb.TheVariants as begins
use Rattle.script_lang.specs.declared.verbs.OpVerb.{OpVerb}
use Rattle.script_lang.specs.declared.verbs.OpVerb.TheVariants as verb
use Rattle.script_lang.specs.Contexts.{Context, is_in_place}
use Rattle.script_lang.specs.Spelling.{mode_word}
use Rattle.script_lang.specs.Verbs.{is_one_of, left_out_modes, left_out_verbs, line_verb_of, line_word, op_verb_of}

-- ---- values, one after another

-- what follows from a value; the first cause stays
infixl 10 ◌>>=◌
abbrev pub ◌>>=◌ : {A B : Type 0} → Result A Cause → (A → Result B Cause) → Result B Cause
Err why >>= f = Err why
Ok value >>= f = f value

-- a value, if a condition holds
abbrev pub only_if : {A : Type 0} → Bool → Cause → A → Result A Cause
only_if true why value = Ok value
only_if false why value = Err why

-- a value that there may be, or the cause why not
abbrev pub or_cause : {A : Type 0} → Cause → Option A → Result A Cause
or_cause why None = Err why
or_cause why (Some value) = Ok value

-- ---- words

-- the words of a line: what stands between its spaces
abbrev pub words_of : List ℕ → List (List ℕ)
words_of text = slice_split (λ b. b == 0x20) text

-- the words of what is left of a line; nothing is left behind its last word
abbrev pub words_left : Option (List ℕ) → List (List ℕ)
words_left None = []
words_left (Some text) = words_of text

-- the first word, where there is one
abbrev pub first_of : List (List ℕ) → Option (List ℕ)
first_of [] = None
first_of (word ∷ words) = Some word

-- the words behind the first
abbrev pub rest_of : List (List ℕ) → List (List ℕ)
rest_of [] = []
rest_of (word ∷ words) = words

-- a word that is not empty
abbrev pub if_some : List ℕ → Option (List ℕ)
if_some [] = None
if_some (b ∷ word) = Some (b ∷ word)

-- a word that is no semicolon
abbrev pub if_field : List ℕ → Option (List ℕ)
if_field word = if bytes_eq word (codes ";") then None else if_some word

-- the first word, where there is one and it is not empty
abbrev pub word_at : List (List ℕ) → Option (List ℕ)
word_at [] = None
word_at (word ∷ words) = if_some word

-- the first word as a field of a sub-operation, which a semicolon ends
abbrev pub field_at : List (List ℕ) → Option (List ℕ)
field_at [] = None
field_at (word ∷ words) = if_field word

-- what a word says, where there is one and it fits; else that a word is missing, or the cause
abbrev pub fit : {A : Type 0} → Cause → (List ℕ → Option A) → Option (List ℕ) → Result A Cause
fit why read None = Err cause.Words
fit why read (Some word) = or_cause why (read word)

-- what a word says, where there is one; else that a word is missing
abbrev pub by_word : {A : Type 0} → (List ℕ → Result A Cause) → Option (List ℕ) → Result A Cause
by_word read None = Err cause.Words
by_word read (Some word) = read word

-- ---- single words

-- a value, if a condition holds
abbrev pub where_true : {A : Type 0} → Bool → A → Option A
where_true true value = Some value
where_true false value = None

-- a value, if there is no fault
abbrev pub faultless : {A F : Type 0} → Option F → A → Option A
faultless None value = Some value
faultless (Some fault) value = None

-- digits without a leading zero, but for the zero itself, at most 19 of them
abbrev pub is_numeral : List ℕ → Bool
is_numeral word = nat_le 1 (length word) && nat_le (length word) 19 && list_all is_ascii_digit word
    && (nat_le 49 (slice_index word 0) || length word == 1)

-- the number of a word, if it is one of at most 2^62
unfoldable pub number_of : List ℕ → Option ℕ
number_of word =
    where_true (is_numeral word && nat_le (digits_value 10 word) number_limit)
    (digits_value 10 word)

-- a hexadecimal digit, in lower case
abbrev pub is_lower_digit : ℕ → Bool
is_lower_digit b = is_ascii_digit b || (nat_le 97 b && nat_le b 102)

-- the bytes of a word, if it is pairs of lower-case hexadecimal digits, or a dash for none
unfoldable pub bytes_of : List ℕ → Option (List ℕ)
bytes_of word =
    if bytes_eq word (codes "-") then Some []
    else if nat_le 1 (length word) && list_all is_lower_digit word then result_ok (decode_of word)
    else None

-- the word as a name, if it is one
unfoldable pub name_of : List ℕ → Option (List ℕ)
name_of word = faultless (name_fault word) word

-- the word as the key to go on from; a dash stands for none
unfoldable pub after_of : List ℕ → Option (Option (List ℕ))
after_of word = if bytes_eq word (codes "-") then Some None else option_map Some (name_of word)

-- a word that nothing begins with: it is left out here, or unknown
unfoldable pub unknown : List ℕ → Cause → Cause
unknown word why = if is_one_of left_out_verbs word then cause.LeftOut word else why

-- a word that is no mode: it is left out here, or unknown
abbrev pub unknown_mode : List ℕ → Cause
unknown_mode word = if is_one_of left_out_modes word then cause.LeftOut word else cause.Mode

-- the mode of a word, or that it is left out or unknown
unfoldable pub mode_of : List ℕ → Result Mode Cause
mode_of word =
    if bytes_eq word (mode_word mode.Writeback) then Ok mode.Writeback
    else if bytes_eq word (mode_word mode.Readproxy) then Ok mode.Readproxy
    else if bytes_eq word (mode_word mode.Proxy) then Ok mode.Proxy
    else Err (unknown_mode word)

-- ---- fields of sub-operations

-- the first word as a number
abbrev pub number_at : List (List ℕ) → Result ℕ Cause
number_at words = fit cause.Number number_of (field_at words)

-- the first word as bytes
abbrev pub bytes_at : List (List ℕ) → Result (List ℕ) Cause
bytes_at words = fit cause.Hex bytes_of (field_at words)

-- the first word as a key
abbrev pub name_at : List (List ℕ) → Result (List ℕ) Cause
name_at words = fit cause.Name name_of (field_at words)

-- the first word as the key to go on from
abbrev pub after_at : List (List ℕ) → Result (Option (List ℕ)) Cause
after_at words = fit cause.Name after_of (field_at words)

-- ---- sub-operations

-- a sub-operation, and the words behind it
abbrev pub TakenOp : Type 0
TakenOp = SubOp × List (List ℕ)

-- a sub-operation without fields
abbrev pub alone : SubOp → List (List ℕ) → Result TakenOp Cause
alone o words = Ok (o, words)

-- a sub-operation of one field
abbrev pub of_one : {A : Type 0} → (List (List ℕ) → Result A Cause) → (A → SubOp) → List (List ℕ)
    → Result TakenOp Cause
of_one read make words = read words >>= λ x. Ok (make x, rest_of words)

-- a sub-operation of two fields
abbrev pub of_two : {A B : Type 0} → (List (List ℕ) → Result A Cause)
    → (List (List ℕ) → Result B Cause) → (A → B → SubOp)
    → List (List ℕ) → Result TakenOp Cause
of_two first second make words =
    first words >>= λ x. second (rest_of words) >>= λ y. Ok (make x y, rest_of (rest_of words))

-- what a sub-operation of this verb says behind it
abbrev pub op_of : OpVerb → List (List ℕ) → Result TakenOp Cause
op_of verb.Create = alone op.Create
op_of verb.WriteFull = of_one bytes_at op.WriteFull
op_of verb.Write = of_two number_at bytes_at op.Write
op_of verb.Append = of_one bytes_at op.Append
op_of verb.Zero = of_two number_at number_at op.Zero
op_of verb.Truncate = of_one number_at op.Truncate
op_of verb.Remove = alone op.Remove
op_of verb.SetXattr = of_two name_at bytes_at op.SetXattr
op_of verb.RmXattr = of_one name_at op.RmXattr
op_of verb.OmapSet = of_two name_at bytes_at op.OmapSet
op_of verb.OmapRm = of_one name_at op.OmapRm
op_of verb.OmapClear = alone op.OmapClear
op_of verb.AssertExists = alone op.AssertExists
op_of verb.AssertVer = of_one number_at op.AssertVer
op_of verb.CmpXattr = of_two name_at bytes_at op.CmpXattr
op_of verb.Read = of_two number_at number_at op.Read
op_of verb.Stat = alone op.Stat
op_of verb.GetXattr = of_one name_at op.GetXattr
op_of verb.ListXattrs = alone op.ListXattrs
op_of verb.OmapGet = of_one name_at op.OmapGet
op_of verb.OmapList = of_two after_at number_at op.OmapList

-- a sub-operation that begins with this word, and the words behind it
abbrev pub op_from : List (List ℕ) → List ℕ → Result TakenOp Cause
op_from words word = or_cause (unknown word cause.Subop) (op_verb_of word) >>= λ v. op_of v words

-- the first sub-operation, and the words behind it
abbrev pub op_at : List (List ℕ) → Result TakenOp Cause
op_at words = by_word (op_from (rest_of words)) (word_at words)

-- ---- vectors

-- a sub-operation in front of others
abbrev pub put_first : SubOp → Result (List SubOp) Cause → Result (List SubOp) Cause
put_first o (Err why) = Err why
put_first o (Ok ops) = Ok (o ∷ ops)

-- a sub-operation is the last one, or a semicolon follows, and others that the rest says
abbrev pub ops_behind : (List (List ℕ) → Result (List SubOp) Cause) → SubOp → List (List ℕ)
    → Result (List SubOp) Cause
ops_behind others o [] = Ok (o ∷ [])
ops_behind others o (word ∷ words) = if bytes_eq word (codes ";") then put_first o (others words)
    else Err cause.Words

-- the sub-operations that words say, at most so many
unfoldable pub ops_within : ℕ → List (List ℕ) → Result (List SubOp) Cause
ops_within zero words = Err cause.Words
ops_within (suc most) words = op_at words >>= λ taken. ops_behind (ops_within most) taken.0 taken.1

-- the sub-operations that words say: no more than there are words
abbrev pub ops_of : List (List ℕ) → Result (List SubOp) Cause
ops_of words = ops_within (length words) words

-- what is wrong with a vector as a whole
abbrev pub cause_of : BadVector → Cause
cause_of bad.Empty = cause.Words
cause_of (bad.TooMany count) = cause.Many
cause_of (bad.Far place) = cause.Number
cause_of (bad.Mixed place) = cause.Mixed place
cause_of (bad.Heavy carried) = cause.Heavy

-- sub-operations, if nothing is wrong with them as a whole
abbrev pub if_vector : Option BadVector → List SubOp → Result (List SubOp) Cause
if_vector None ops = Ok ops
if_vector (Some fault) ops = Err (cause_of fault)

-- a request has a sub-operation that writes, and a reading has none
abbrev pub is_of_kind : Bool → List SubOp → Bool
is_of_kind true ops = list_any is_write ops
is_of_kind false ops = not (list_any is_write ops)

-- the vector that words say, of a request or of a reading
unfoldable pub vector_of : Bool → List (List ℕ) → Result (List SubOp) Cause
vector_of writes words =
    ops_of words >>= λ ops. if_vector (vector_fault ops) ops >>= λ vector.
    only_if (is_of_kind writes vector) (cause.Mixed 0) vector

-- ---- lines

-- a client's number is 1 to 256
abbrev pub client_of : ℕ → Result ℕ Cause
client_of number = only_if (nat_le 1 number && nat_le number client_limit) cause.Client number

-- the first word as a number
abbrev pub line_number_at : List (List ℕ) → Result ℕ Cause
line_number_at words = fit cause.Number number_of (word_at words)

-- the first word as a client's number
abbrev pub client_at : List (List ℕ) → Result ℕ Cause
client_at words = line_number_at words >>= client_of

-- the first word as a name
abbrev pub line_name_at : List (List ℕ) → Result (List ℕ) Cause
line_name_at words = fit cause.Name name_of (word_at words)

-- a line with no word behind it
abbrev pub ended : Line → List (List ℕ) → Result Line Cause
ended said [] = Ok said
ended said (word ∷ words) = Err cause.Words

-- what an `op` line says behind its verb
abbrev pub op_line : List (List ℕ) → Result Line Cause
op_line words =
    client_at words >>= λ client.
    line_number_at (rest_of words) >>= λ tid.
    line_name_at (rest_of (rest_of words)) >>= λ name.
    vector_of true (rest_of (rest_of (rest_of words))) >>= λ vector.
    Ok (line.Op (record { client = client; tid = tid; name = name; vector = vector }))

-- what a `get` line says behind its verb
abbrev pub get_line : List (List ℕ) → Result Line Cause
get_line words =
    client_at words >>= λ client.
    line_name_at (rest_of words) >>= λ name.
    vector_of false (rest_of (rest_of words)) >>= λ vector.
    Ok (line.Get client name vector)

-- a line of one name
abbrev pub name_line : (List ℕ → Line) → List (List ℕ) → Result Line Cause
name_line make words = line_name_at words >>= λ name. ended (make name) (rest_of words)

-- what a `begin` line says behind its second word
abbrev pub begin_by : List (List ℕ) → List ℕ → Result Line Cause
begin_by words word =
    if bytes_eq word (line_word begins.Flush) then name_line line.BeginFlush words
    else if bytes_eq word (line_word begins.Tryflush) then name_line line.BeginTryflush words
    else Err cause.Verb

-- what a `stop` line says behind its second word
abbrev pub stop_by : List (List ℕ) → List ℕ → Result Line Cause
stop_by words word =
    if bytes_eq word (codes "cache") then ended line.StopCache words
    else if bytes_eq word (codes "base") then ended line.StopBase words
    else Err cause.Verb

-- what a `mode` line says behind its verb
abbrev pub mode_line : List (List ℕ) → Result Line Cause
mode_line words = by_word mode_of (word_at words) >>= λ m. ended (line.SetMode m) (rest_of words)

-- a moment is not below an earlier one
abbrev pub moment_of : ℕ → ℕ → Result ℕ Cause
moment_of least moment = only_if (nat_le least moment) cause.Time moment

-- what a `time` line says behind its verb
abbrev pub time_line : ℕ → List (List ℕ) → Result Line Cause
time_line least words =
    line_number_at words >>= λ number. moment_of least number >>= λ moment.
    ended (line.SetTime moment) (rest_of words)

-- what a line of this verb says behind it, no moment below this one
abbrev pub line_by : ℕ → LineVerb → List (List ℕ) → Result Line Cause
line_by least begins.Op words = op_line words
line_by least begins.Get words = get_line words
line_by least begins.Flush words = name_line line.Flush words
line_by least begins.Tryflush words = name_line line.Tryflush words
line_by least begins.Begin words = by_word (begin_by (rest_of words)) (word_at words)
line_by least begins.Finish words = name_line line.Finish words
line_by least begins.Evict words = name_line line.Evict words
line_by least begins.Drain words = ended line.Drain words
line_by least begins.Agent words = ended line.Agent words
line_by least begins.Mode words = mode_line words
line_by least begins.Time words = time_line least words
line_by least begins.Stop words = by_word (stop_by (rest_of words)) (word_at words)
line_by least begins.Par words = ended line.Par words
line_by least begins.End words = ended line.End words

-- what a line says that begins with this word
abbrev pub line_from : ℕ → List (List ℕ) → List ℕ → Result Line Cause
line_from least words word =
    or_cause (unknown word cause.Verb) (line_verb_of word) >>= λ v. line_by least v words

-- what the words of a line say
abbrev pub line_at : ℕ → List (List ℕ) → Result Line Cause
line_at least words = by_word (line_from least (rest_of words)) (word_at words)

-- a byte that may not stand in a line
abbrev pub is_odd_byte : ℕ → Bool
is_odd_byte b = nat_lt b 0x20 || nat_lt 0x7e b

-- a line, where it may stand in this block before these lines
abbrev pub placed : Option (List ℕ) → List (List ℕ) → Line → Result Line Cause
placed block texts said = only_if (is_in_place block texts said) cause.Par said

-- What a text, without its newline, says in this context before these lines; or the cause why it
-- says nothing. The bytes come first, then the words from the left, then the vector as a whole,
-- then the block.
unfoldable pub line_of : Context → List (List ℕ) → List ℕ → Result Line Cause
line_of ctx texts text =
    if list_any is_odd_byte text then Err cause.Byte
    else line_at ctx.moment (words_of text) >>= placed ctx.block texts
