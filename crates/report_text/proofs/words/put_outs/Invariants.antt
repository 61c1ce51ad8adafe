use Rattle.std.proofs.Common.{◌≡◌, ◌++◌, take}
use Rattle.std.specs.List.{flat_map}
use Rattle.report_text.specs.Words.{next_out_text}
use Rattle.report_text.proofs.words.put_outs.Given as goal

-- the texts so far stand behind the others
abbrev pub invariant-loop-out : goal.invariant-loop-out
invariant-loop-out l = l.text ≡ l.initial.text ++ flat_map next_out_text (take l.out-index l.others)
