use Rattle.std.proofs.Common.{ℕ, List, ◌∷◌, ◌++◌, append_assoc, sym, ap, ◌∙◌}
use Rattle.std.proofs.lemmas.Result.{IfOk-equal}
use Rattle.obj_model.specs.declared.sub_op.SubOp.{SubOp}
use Rattle.script_lang.specs.Printing.{ops_text, spaced}
use Rattle.script_lang.specs.Spelling.{vector_words}
use Rattle.script_lang.proofs.Printed.{joined_is_spaced, ops_are_spaced}
use Rattle.script_lang.proofs.print.put_addressed.Goals as goal

-- src/print.rt
pub returns : goal.returns
returns c =
    let text = c.args.text.now in
    let name = c.args.name.now in
    let ops = c.args.vector.now in
    IfOk-equal _ _ _ _ c.put_ops.ensures (
    ap (λ (ops : List SubOp). c.put_name.new.text ++ ops_text ops) c.ops.ensures.value
    ∙ ap (λ (t : List ℕ). t ++ ops_text ops) c.in_ok-put_name.ensures
    ∙ append_assoc text (spaced name) (ops_text ops)
    ∙ ap (λ (rest : List ℕ). text ++ (spaced name ++ rest)) (sym (ops_are_spaced ops))
    ∙ ap (λ (rest : List ℕ). text ++ 32 ∷ rest) (sym (joined_is_spaced name (vector_words ops)))
    )
