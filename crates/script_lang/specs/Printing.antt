-- The spelling of a line, piece by piece.
use Rattle.std.specs.Prelude.{ℕ, List, [], ◌∷◌, ◌++◌, codes}
use Rattle.std.specs.List.{flat_map}
use Rattle.obj_model.specs.declared.sub_op.SubOp.{SubOp}
use Rattle.script_lang.specs.Spelling.{op_words}

-- a word behind a space
abbrev pub spaced : List ℕ → List ℕ
spaced word = codes " " ++ word

-- words, each behind a space
abbrev pub all_spaced : List (List ℕ) → List ℕ
all_spaced words = flat_map spaced words

-- a sub-operation behind a space
abbrev pub op_text : SubOp → List ℕ
op_text o = all_spaced (op_words o)

-- one more sub-operation, behind a semicolon
abbrev pub next_op_text : SubOp → List ℕ
next_op_text o = codes " ;" ++ op_text o

-- sub-operations, each behind a space, with a semicolon between two
abbrev pub ops_text : List SubOp → List ℕ
ops_text [] = []
ops_text (first ∷ others) = op_text first ++ flat_map next_op_text others
