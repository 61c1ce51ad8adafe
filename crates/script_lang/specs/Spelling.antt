-- How a line is spelled. Each line has one spelling.
use Rattle.std.specs.Prelude.{◌≡◌, ◌≤◌, ℕ, true, false, List, [], ◌∷◌, ◌++◌, map, Option, Some, None, decimal, codes, All}
use Rattle.std.specs.List.{AllByRecursion, join_with_byte, list_any}
use Rattle.hex.specs.Hex.{encode_lower, IsBytes}
use Rattle.obj_model.specs.Fields.{Field, Number, Bytes, Key, After, fields}
use Rattle.obj_model.specs.Limits.{number_limit, client_limit}
use Rattle.obj_model.specs.Names.{name_fault}
use Rattle.obj_model.specs.SubOps.{is_write}
use Rattle.obj_model.specs.Vectors.{vector_fault}
use Rattle.obj_model.specs.declared.tier.Mode.{Mode}
use Rattle.obj_model.specs.declared.tier.Mode.TheVariants.{Writeback, Readproxy, Proxy}
use Rattle.obj_model.specs.declared.sub_op.SubOp.{SubOp}
use Rattle.script_lang.specs.declared.line.Line.{Line}
use Rattle.script_lang.specs.declared.line.Line.TheVariants as line
use Rattle.script_lang.specs.declared.verbs.LineVerb.TheVariants as verb
use Rattle.script_lang.specs.Verbs.{line_word, op_word, verb_of}

-- bytes as one word: pairs of lower-case hexadecimal digits, or a dash for none
abbrev pub bytes_word : List ℕ → List ℕ
bytes_word [] = codes "-"
bytes_word (b ∷ bytes) = encode_lower (b ∷ bytes)

-- the word of a field; a dash stands for no key
abbrev pub field_word : Field → List ℕ
field_word (Number n) = decimal n
field_word (Bytes bytes) = bytes_word bytes
field_word (Key key) = key
field_word (After None) = codes "-"
field_word (After (Some key)) = key

-- what a field carries can be spelled: a number up to 2^62, bytes, a name
abbrev pub IsField : Field → Type 0
IsField (Number n) = n ≤ number_limit
IsField (Bytes bytes) = IsBytes bytes
IsField (Key key) = name_fault key ≡ None
IsField (After None) = Unit {0}
IsField (After (Some key)) = name_fault key ≡ None

-- the words of a sub-operation: its verb and its fields
abbrev pub op_words : SubOp → List (List ℕ)
op_words o = op_word (verb_of o) ∷ map field_word (fields o)

-- what a sub-operation carries can be spelled
abbrev pub IsOp : SubOp → Type 0
IsOp o = AllByRecursion IsField (fields o)

-- the words of sub-operations, with a semicolon as a word between two
abbrev pub vector_words : List SubOp → List (List ℕ)
vector_words [] = []
vector_words (op ∷ []) = op_words op
vector_words (op ∷ next ∷ ops) = op_words op ++ codes ";" ∷ vector_words (next ∷ ops)

-- the word of a mode
abbrev pub mode_word : Mode → List ℕ
mode_word Writeback = codes "writeback"
mode_word Readproxy = codes "readproxy"
mode_word Proxy = codes "proxy"

-- the words of a line
abbrev pub line_words : Line → List (List ℕ)
line_words (line.Op req) =
    line_word verb.Op ∷ decimal req.client ∷ decimal req.tid ∷ req.name ∷ vector_words req.vector
line_words (line.Get client name vector) =
    line_word verb.Get ∷ decimal client ∷ name ∷ vector_words vector
line_words (line.Flush name) = line_word verb.Flush ∷ name ∷ []
line_words (line.Tryflush name) = line_word verb.Tryflush ∷ name ∷ []
line_words (line.BeginFlush name) = line_word verb.Begin ∷ line_word verb.Flush ∷ name ∷ []
line_words (line.BeginTryflush name) = line_word verb.Begin ∷ line_word verb.Tryflush ∷ name ∷ []
line_words (line.Finish name) = line_word verb.Finish ∷ name ∷ []
line_words (line.Evict name) = line_word verb.Evict ∷ name ∷ []
line_words line.Drain = line_word verb.Drain ∷ []
line_words line.Agent = line_word verb.Agent ∷ []
line_words (line.SetMode mode) = line_word verb.Mode ∷ mode_word mode ∷ []
line_words (line.SetTime moment) = line_word verb.Time ∷ decimal moment ∷ []
line_words line.StopCache = line_word verb.Stop ∷ codes "cache" ∷ []
line_words line.StopBase = line_word verb.Stop ∷ codes "base" ∷ []
line_words line.Par = line_word verb.Par ∷ []
line_words line.End = line_word verb.End ∷ []

-- the spelling of a line, without a newline: its words with one space between two
abbrev pub spelling : Line → List ℕ
spelling line = join_with_byte 0x20 (line_words line)

-- a client's number is 1 to 256
pub record IsClient (client : ℕ) : Type 0 where
  pub low : 1 ≤ client
  pub high : client ≤ client_limit

-- what each line carries: a client, a name and a vector within their limits
pub record IsAddressed (client : ℕ) (name : List ℕ) (vector : List SubOp) : Type 0 where
  pub client_lawful : IsClient client
  pub name_lawful : name_fault name ≡ None
  pub vector_lawful : vector_fault vector ≡ None
  pub each_spelled : All IsOp vector

-- the bytes are a name
abbrev pub IsName : List ℕ → Type 0
IsName name = name_fault name ≡ None

-- a line that can be spelled; a request writes, and a reading does not
abbrev pub IsLine : Line → Type 0
IsLine (line.Op req) =
    IsAddressed req.client req.name req.vector × (req.tid ≤ number_limit)
    × (list_any is_write req.vector ≡ true)
IsLine (line.Get client name vector) = IsAddressed client name vector
    × (list_any is_write vector ≡ false)
IsLine (line.Flush name) = IsName name
IsLine (line.Tryflush name) = IsName name
IsLine (line.BeginFlush name) = IsName name
IsLine (line.BeginTryflush name) = IsName name
IsLine (line.Finish name) = IsName name
IsLine (line.Evict name) = IsName name
IsLine line.Drain = Unit {0}
IsLine line.Agent = Unit {0}
IsLine (line.SetMode mode) = Unit {0}
IsLine (line.SetTime moment) = moment ≤ number_limit
IsLine line.StopCache = Unit {0}
IsLine line.StopBase = Unit {0}
IsLine line.Par = Unit {0}
IsLine line.End = Unit {0}

-- a text, without its newline, parses as this line
pub record Parses (text : List ℕ) (line : Line) : Type 0 where
  pub lawful : IsLine line
  pub spelled : text ≡ spelling line
