-- Requests from left to right: a value and the bytes after it, or nothing.
use Rattle.std.specs.Prelude.{ℕ, Bool, true, not, List, [], ◌∷◌, Option, Some, None, nat_le, is_some, ◌==◌, ◌&&◌, if◌then◌else◌}
use Rattle.obj_model.specs.Limits.{number_limit, client_limit, payload_limit}
use Rattle.obj_model.specs.Vectors.{vector_fault}
use Rattle.obj_model.specs.declared.req.Req.{Req}
use Rattle.obj_model.specs.declared.sub_op.SubOp.{SubOp}
use Rattle.obj_model.specs.declared.sub_op.SubOp.TheVariants as op
use Rattle.rec_codec.specs.Reading.{Reader, then_at, behind_at, if_at, as_at, each_at, number_at, string_at, name_at}

-- ---- the shapes of fields

-- no field
abbrev pub nothing_at : Reader (Unit {0})
nothing_at bytes = Some (tt, bytes)

-- a number
abbrev pub word_at : Reader ℕ
word_at = number_at 8

-- bytes
abbrev pub text_at : Reader (List ℕ)
text_at = string_at payload_limit

-- two numbers
abbrev pub words_at : Reader (ℕ × ℕ)
words_at = then_at word_at (λ _. word_at)

-- a number and bytes
abbrev pub word_text_at : Reader (ℕ × List ℕ)
word_text_at = then_at word_at (λ _. text_at)

-- a key and bytes
abbrev pub key_text_at : Reader (List ℕ × List ℕ)
key_text_at = then_at name_at (λ _. text_at)

-- what stands behind the byte that says whether there is a key to go on from
abbrev pub after_behind : ℕ → Reader (Option (List ℕ))
after_behind tag bytes =
    if tag == 0 then Some (None, bytes) else if tag == 1 then as_at name_at Some bytes else None

-- the key to go on from, or that there is none
unfoldable pub after_at : Reader (Option (List ℕ))
after_at = behind_at (number_at 1) after_behind

-- the key to go on from, and a number
abbrev pub after_word_at : Reader (Option (List ℕ) × ℕ)
after_word_at = then_at after_at (λ _. word_at)

-- ---- sub-operations

-- a tag, and what stands behind it
abbrev pub Row : Type 0
Row = ℕ × Reader SubOp

-- the changes of an object and its body
abbrev pub body_rows : List Row
body_rows =
    (1, as_at nothing_at (λ _. op.Create))
    ∷ (2, as_at text_at (λ bytes. op.WriteFull bytes))
    ∷ (3, as_at word_text_at (λ p. op.Write p.0 p.1))
    ∷ (4, as_at text_at (λ bytes. op.Append bytes))
    ∷ (5, as_at words_at (λ p. op.Zero p.0 p.1))
    ∷ (6, as_at word_at (λ size. op.Truncate size))
    ∷ (7, as_at nothing_at (λ _. op.Remove))
    ∷ []

-- the changes of a table
abbrev pub table_rows : List Row
table_rows =
    (8, as_at key_text_at (λ p. op.SetXattr p.0 p.1))
    ∷ (9, as_at name_at (λ key. op.RmXattr key))
    ∷ (10, as_at key_text_at (λ p. op.OmapSet p.0 p.1))
    ∷ (11, as_at name_at (λ key. op.OmapRm key))
    ∷ (12, as_at nothing_at (λ _. op.OmapClear))
    ∷ []

-- the guards
abbrev pub guard_rows : List Row
guard_rows =
    (13, as_at nothing_at (λ _. op.AssertExists))
    ∷ (14, as_at word_at (λ ver. op.AssertVer ver))
    ∷ (15, as_at key_text_at (λ p. op.CmpXattr p.0 p.1))
    ∷ []

-- the readings
abbrev pub read_rows : List Row
read_rows =
    (16, as_at words_at (λ p. op.Read p.0 p.1))
    ∷ (17, as_at nothing_at (λ _. op.Stat))
    ∷ (18, as_at name_at (λ key. op.GetXattr key))
    ∷ (19, as_at nothing_at (λ _. op.ListXattrs))
    ∷ (20, as_at name_at (λ key. op.OmapGet key))
    ∷ (21, as_at after_word_at (λ p. op.OmapList p.0 p.1))
    ∷ []

-- what stands behind a tag among rows
abbrev pub among : List Row → ℕ → Reader SubOp
among [] tag bytes = None
among (row ∷ rows) tag bytes = if tag == row.0 then row.1 bytes else among rows tag bytes

-- what stands behind a tag
abbrev pub op_behind : ℕ → Reader SubOp
op_behind tag bytes =
    if nat_le tag 7 then among body_rows tag bytes
    else if nat_le tag 12 then among table_rows tag bytes
    else if nat_le tag 15 then among guard_rows tag bytes
    else among read_rows tag bytes

-- a sub-operation
unfoldable pub op_at : Reader SubOp
op_at = behind_at (number_at 1) op_behind

-- so many sub-operations
abbrev pub ops_at : ℕ → Reader (List SubOp)
ops_at = each_at op_at (λ _. tt {0}) (λ _ _. true) tt

-- ---- requests

-- nothing is wrong with sub-operations as a vector
abbrev pub is_vector : List SubOp → Bool
is_vector ops = not (is_some (vector_fault ops))

-- sub-operations behind their number, which are a vector
unfoldable pub vector_at : Reader (List SubOp)
vector_at = behind_at (number_at 1) (λ n. if_at (ops_at n) is_vector)

-- a client, a request number, a name and a vector
abbrev pub parts_at : Reader (ℕ × (ℕ × (List ℕ × List SubOp)))
parts_at =
    then_at (if_at (number_at 2) (λ client. nat_le 1 client && nat_le client client_limit)) (λ _.
    then_at (if_at (number_at 8) (λ tid. nat_le tid number_limit)) (λ _.
    then_at name_at (λ _. vector_at)))

-- a request
unfoldable pub req_at : Reader Req
req_at =
    as_at parts_at (λ r. record { client = r.0; tid = r.1.0; name = r.1.1.0; vector = r.1.1.1 })
