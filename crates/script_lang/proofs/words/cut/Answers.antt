-- The word and the rest are the lemma's, at the range that the code writes.
use Rattle.std.proofs.Common.{ℕ, ◌+◌, List, ◌∷◌, take, sym, ap, ◌∙◌}
use Rattle.script_lang.specs.Reading.{words_of}
use Rattle.script_lang.proofs.Breaks.{words_at_space, rest_of_slice}
use Rattle.script_lang.proofs.words.cut.Goals as goal

pub returns-in-Some : goal.returns-in-Some
returns-in-Some c =
    words_at_space c.args.text.now c.in-Some.at (sym c.in-Some.ensures.place)
    ∙ ap (λ (l : List ℕ). take c.in-Some.at c.args.text.now ∷ words_of l)
    (sym (rest_of_slice c.args.text.now (c.in-Some.at + 1)))
