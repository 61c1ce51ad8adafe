-- The line and the rest are the lemma's, at the range that the code writes.
use Rattle.std.proofs.Common.{ℕ, ◌+◌, List, ◌∷◌, take, sym, ap, ◌∙◌}
use Rattle.script_lang.specs.Scripts.{lines_of}
use Rattle.script_lang.proofs.Breaks.{lines_at_newline, rest_of_slice}
use Rattle.script_lang.proofs.split.first_line.Goals as goal

pub returns-in-Some-clause-lines : goal.returns-in-Some-clause-lines
returns-in-Some-clause-lines c =
    lines_at_newline c.args.text.now c.in-Some.at (sym c.in-Some.ensures.place)
    ∙ ap (λ (l : List ℕ). take c.in-Some.at c.args.text.now ∷ lines_of l)
    (sym (rest_of_slice c.args.text.now (c.in-Some.at + 1)))
