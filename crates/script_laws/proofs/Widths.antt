-- How long a spelling may be: far below the limit of a script.
use Rattle.std.proofs.Common.{◌≡◌, ℕ, ◌+◌, ◌*◌, ◌^◌, ◌≤◌, ◌==◌, Bool, true, false, List, [], ◌∷◌, ◌++◌, length, length-append, map, nat_lt, Option, Some, None, if◌then◌else◌, refl, ap, ◌∙◌, arith, decimal}
use Rattle.std.specs.Prelude.{sum}
use Rattle.std.specs.List.{AllByRecursion, flat_map, join_with_byte, position}
use Rattle.std.proofs.lemmas.Bool.Decides.{nat_tests}
use Rattle.std.proofs.lemmas.Fmt.{length-decimal-le}
use Rattle.std.proofs.lemmas.List.Elements.{recursion_from_All}
use Rattle.std.proofs.lemmas.List.Sums.{sum_by-cons}
use Rattle.hex.specs.Hex.{lower_digits}
use Rattle.hex.proofs.HexLemmas.{length-encode_with}
use Rattle.obj_model.specs.Names.{byte_fault, is_wrong_byte}
use Rattle.obj_model.specs.SubOps.{payload}
use Rattle.obj_model.specs.Vectors.{far_place, fault_or, mixed_place, payload_of, vector_fault}
use Rattle.obj_model.specs.declared.name.BadName.TheVariants as bad_name
use Rattle.obj_model.specs.Fields.{After, Bytes, Field, Key, Number, fields}
use Rattle.obj_model.specs.declared.sub_op.SubOp.{SubOp}
use Rattle.obj_model.specs.declared.sub_op.SubOp.TheVariants as op
use Rattle.obj_model.specs.declared.tier.Mode.{Mode}
use Rattle.obj_model.specs.declared.tier.Mode.TheVariants as mode
use Rattle.obj_model.specs.declared.vector.BadVector.TheVariants.{Empty, TooMany, Far, Mixed, Heavy}
use Rattle.script_lang.specs.declared.line.Line.{Line}
use Rattle.script_lang.specs.declared.line.Line.TheVariants as line
use Rattle.script_lang.specs.Printing.{all_spaced, next_op_text, op_text, ops_text, spaced}
use Rattle.script_lang.specs.Spelling.{IsAddressed, IsField, IsLine, IsName, IsOp, field_word, mode_word, spelling, vector_words}
use Rattle.script_lang.specs.Verbs.{op_word, verb_of}
use Rattle.script_lang.proofs.Printed.{joined_is_spaced, ops_are_spaced}

-- the bytes that a field carries
abbrev weight : Field → ℕ
weight (Number n) = 0
weight (Bytes bytes) = length bytes
weight (Key key) = length key
weight (After None) = 0
weight (After (Some key)) = length key

-- the bytes that fields carry
abbrev carried : List Field → ℕ
carried [] = 0
carried (field ∷ others) = weight field + carried others

number_width : (n : ℕ) → n ≤ 2 ^ 62 → length (decimal n) ≤ 19
number_width n h = length-decimal-le 19 n (omega arith) (omega arith) (omega arith)

word_width : (field : Field) → IsField field → length (field_word field) ≤ 2 * weight field + 20
word_width (Number n) h = let width = number_width n h in omega arith
word_width (Bytes []) h = omega arith
word_width (Bytes (b ∷ bytes)) h =
    let width = length-encode_with lower_digits (b ∷ bytes) in
    omega arith
word_width (Key key) h = omega arith
word_width (After None) h = omega arith
word_width (After (Some key)) h = omega arith

fields_width : (all : List Field) → AllByRecursion IsField all
    → length (all_spaced (map field_word all)) ≤ 2 * carried all + 21 * length all
fields_width [] h = omega arith
fields_width (field ∷ others) h =
    let first = word_width field h.0 in
    let more = fields_width others h.1 in
    let both = length-append (spaced (field_word field)) (all_spaced (map field_word others)) in
    omega arith

-- the form of a sub-operation: it carries its payload in at most two fields behind a short word
record HasForm (o : SubOp) : Type 0 where
  carries : carried (fields o) ≡ payload o
  few : length (fields o) ≤ 2
  short : length (op_word (verb_of o)) ≤ 13

has_form : (o : SubOp) → HasForm o
has_form op.Create = record { carries = refl; few = omega arith; short = omega arith }
has_form (op.WriteFull bytes) =
    record { carries = omega arith; few = omega arith; short = omega arith }
has_form (op.Write off bytes) =
    record { carries = omega arith; few = omega arith; short = omega arith }
has_form (op.Append bytes) =
    record { carries = omega arith; few = omega arith; short = omega arith }
has_form (op.Zero off len) = record { carries = refl; few = omega arith; short = omega arith }
has_form (op.Truncate size) = record { carries = refl; few = omega arith; short = omega arith }
has_form op.Remove = record { carries = refl; few = omega arith; short = omega arith }
has_form (op.SetXattr key bytes) =
    record { carries = omega arith; few = omega arith; short = omega arith }
has_form (op.RmXattr key) =
    record { carries = omega arith; few = omega arith; short = omega arith }
has_form (op.OmapSet key bytes) =
    record { carries = omega arith; few = omega arith; short = omega arith }
has_form (op.OmapRm key) = record { carries = omega arith; few = omega arith; short = omega arith }
has_form op.OmapClear = record { carries = refl; few = omega arith; short = omega arith }
has_form op.AssertExists = record { carries = refl; few = omega arith; short = omega arith }
has_form (op.AssertVer ver) = record { carries = refl; few = omega arith; short = omega arith }
has_form (op.CmpXattr key bytes) =
    record { carries = omega arith; few = omega arith; short = omega arith }
has_form (op.Read off len) = record { carries = refl; few = omega arith; short = omega arith }
has_form op.Stat = record { carries = refl; few = omega arith; short = omega arith }
has_form (op.GetXattr key) =
    record { carries = omega arith; few = omega arith; short = omega arith }
has_form op.ListXattrs = record { carries = refl; few = omega arith; short = omega arith }
has_form (op.OmapGet key) = record { carries = omega arith; few = omega arith; short = omega arith }
has_form (op.OmapList None max) = record { carries = refl; few = omega arith; short = omega arith }
has_form (op.OmapList (Some after) max) =
    record { carries = omega arith; few = omega arith; short = omega arith }

op_width : (o : SubOp) → IsOp o → length (op_text o) ≤ 2 * payload o + 56
op_width o h =
    let form = has_form o in
    let carries = form.carries in
    let few = form.few in
    let short = form.short in
    let behind = fields_width (fields o) h in
    let both =
    length-append (spaced (op_word (verb_of o))) (all_spaced (map field_word (fields o))) in
    omega arith

others_width : (ops : List SubOp) → AllByRecursion IsOp ops
    → length (flat_map next_op_text ops) ≤ 2 * sum (map payload ops) + 58 * length ops
others_width [] h = omega arith
others_width (o ∷ ops) h =
    let first = op_width o h.0 in
    let more = others_width ops h.1 in
    let both = length-append (next_op_text o) (flat_map next_op_text ops) in
    let all : sum (map payload (o ∷ ops)) ≡ payload o + sum (map payload ops) =
    sum_by-cons (λ (n : ℕ). n) (payload o) (map payload ops) in
    omega arith

ops_width : (ops : List SubOp) → AllByRecursion IsOp ops
    → length (ops_text ops) ≤ 2 * sum (map payload ops) + 58 * length ops
ops_width [] h = omega arith
ops_width (o ∷ ops) h =
    let first = op_width o h.0 in
    let more = others_width ops h.1 in
    let both = length-append (op_text o) (flat_map next_op_text ops) in
    let all : sum (map payload (o ∷ ops)) ≡ payload o + sum (map payload ops) =
    sum_by-cons (λ (n : ℕ). n) (payload o) (map payload ops) in
    omega arith

-- what is told of a vector that is none, apart from where it stands
vector_by_tests : (empty long heavy : Bool) (n m : ℕ) (far mixed : Option ℕ)
    → nat_lt 16 n ≡ long → nat_lt 16777216 m ≡ heavy
    → (if empty then Some Empty else if long then Some (TooMany n)
    else fault_or Far far (fault_or Mixed mixed (if heavy then Some (Heavy m) else None))) ≡ None
    → (n ≤ 16) × (m ≤ 16777216)
vector_by_tests true long heavy n m far mixed a b h = cc h
vector_by_tests false true heavy n m far mixed a b h = cc h
vector_by_tests false false heavy n m (Some far) mixed a b h = cc h
vector_by_tests false false heavy n m None (Some mixed) a b h = cc h
vector_by_tests false false true n m None None a b h = cc h
vector_by_tests false false false n m None None a b h =
    (grind (arith, nat_tests), grind (arith, nat_tests))

vector_width : (ops : List SubOp) → AllByRecursion IsOp ops → vector_fault ops ≡ None
    → length (ops_text ops) ≤ 33555360
vector_width ops spelled h =
    let parts = vector_by_tests (length ops == 0) _ _ (length ops) (payload_of ops) (far_place ops)
    (mixed_place ops) refl refl h in
    let few = parts.0 in
    let light = parts.1 in
    let width = ops_width ops spelled in
    omega arith

name_by_tests : (empty long : Bool) (bytes : List ℕ) (n : ℕ) (place : Option ℕ)
    → nat_lt 255 n ≡ long
    → (if empty then Some bad_name.Empty else if long then Some (bad_name.Long n)
    else byte_fault bytes place) ≡ None
    → n ≤ 255
name_by_tests true long bytes n place a h = cc h
name_by_tests false true bytes n place a h = cc h
name_by_tests false false bytes n place a h = grind (arith, nat_tests)

name_width : (name : List ℕ) → IsName name → length name ≤ 255
name_width name h =
    name_by_tests (length name == 0) _ name (length name) (position is_wrong_byte name) refl h

addressed_width : (client : ℕ) (name : List ℕ) (ops : List SubOp) → IsAddressed client name ops
    → length (join_with_byte 32 (name ∷ vector_words ops)) ≤ 33555615
addressed_width client name ops h =
    let first = name_width name h.name_lawful in
    let more = vector_width ops (recursion_from_All IsOp ops h.each_spelled) h.vector_lawful in
    let both = length-append name (ops_text ops) in
    let cut : length (join_with_byte 32 (name ∷ vector_words ops)) ≡ length (name ++ ops_text ops) =
    ap length (joined_is_spaced name (vector_words ops)
    ∙ ap (λ (rest : List ℕ). name ++ rest) (ops_are_spaced ops)) in
    omega arith

mode_width : (m : Mode) → length (mode_word m) ≤ 9
mode_width mode.Writeback = omega arith
mode_width mode.Readproxy = omega arith
mode_width mode.Proxy = omega arith

-- a spelling is far below the limit of a script
pub spelling_width : (said : Line) → IsLine said → length (spelling said) ≤ 33555700
spelling_width (line.Op req) h =
    let high = h.0.client_lawful.high in
    let client = number_width req.client (omega arith) in
    let tid = number_width req.tid h.1 in
    let rest = join_with_byte 32 (req.name ∷ vector_words req.vector) in
    let addressed = addressed_width req.client req.name req.vector h.0 in
    let first = length-append (decimal req.client) (32 ∷ decimal req.tid ++ (32 ∷ rest)) in
    let second = length-append (decimal req.tid) (32 ∷ rest) in
    omega arith
spelling_width (line.Get client name vector) h =
    let high = h.0.client_lawful.high in
    let number = number_width client (omega arith) in
    let rest = join_with_byte 32 (name ∷ vector_words vector) in
    let addressed = addressed_width client name vector h.0 in
    let first = length-append (decimal client) (32 ∷ rest) in
    omega arith
spelling_width (line.Flush name) h = let width = name_width name h in omega arith
spelling_width (line.Tryflush name) h = let width = name_width name h in omega arith
spelling_width (line.BeginFlush name) h = let width = name_width name h in omega arith
spelling_width (line.BeginTryflush name) h = let width = name_width name h in omega arith
spelling_width (line.Finish name) h = let width = name_width name h in omega arith
spelling_width (line.Evict name) h = let width = name_width name h in omega arith
spelling_width line.Drain h = omega arith
spelling_width line.Agent h = omega arith
spelling_width (line.SetMode m) h = let width = mode_width m in omega arith
spelling_width (line.SetTime moment) h = let width = number_width moment h in omega arith
spelling_width line.StopCache h = omega arith
spelling_width line.StopBase h = omega arith
spelling_width line.Par h = omega arith
spelling_width line.End h = omega arith
