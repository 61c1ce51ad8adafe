use Rattle.std.proofs.Common.{◌≡◌, ◌++◌, take}
use Rattle.std.specs.List.{flat_map}
use Rattle.report_text.specs.Words.{pair_text}
use Rattle.report_text.proofs.words.put_pairs.Given as goal

-- the texts so far stand behind the others
abbrev pub invariant-loop-pair : goal.invariant-loop-pair
invariant-loop-pair l = l.text ≡ l.fn.text ++ flat_map pair_text (take l.pair-index l.pairs)
