-- Words joined by spaces are the first one, and the others each behind a space.
use Rattle.std.proofs.Common.{◌≡◌, ℕ, List, [], ◌∷◌, ◌++◌, append-nil, refl, sym, ap, codes}
use Rattle.std.specs.List.{join_with_byte}
use Rattle.std.proofs.lemmas.Grind.{flat_map-append}
use Rattle.obj_model.specs.declared.sub_op.SubOp.{SubOp}
use Rattle.script_lang.specs.Printing.{all_spaced, op_text, ops_text, spaced}
use Rattle.script_lang.specs.Spelling.{op_words, vector_words}

pub joined_is_spaced : (word : List ℕ) (words : List (List ℕ))
    → join_with_byte 0x20 (word ∷ words) ≡ word ++ all_spaced words
joined_is_spaced word [] = sym (append-nil word)
joined_is_spaced word (next ∷ words) =
    ap (λ (rest : List ℕ). word ++ 0x20 ∷ rest) (joined_is_spaced next words)

-- the words of sub-operations: those of the first, and the others each behind a semicolon
pub ops_are_spaced : (ops : List SubOp) → all_spaced (vector_words ops) ≡ ops_text ops
ops_are_spaced [] = refl
ops_are_spaced (first ∷ []) = sym (append-nil (op_text first))
ops_are_spaced (first ∷ next ∷ others) =
    let cut : all_spaced (vector_words (first ∷ next ∷ others))
    ≡ op_text first ++ all_spaced (codes ";" ∷ vector_words (next ∷ others)) =
    flat_map-append spaced (op_words first) (codes ";" ∷ vector_words (next ∷ others)) in
    rw (cut, ops_are_spaced (next ∷ others)) refl
